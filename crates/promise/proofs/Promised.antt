-- The promise over runs, from its parts.
use Rattle.std.proofs.Common.{◌≡◌, ℕ, cond, List, length, Some, Option, ap, subst}
use Rattle.store.specs.Fits.{InRange, FitCells}
use Rattle.store.specs.declared.node.Region.{Region}
use Rattle.trees.specs.Regions.{Laws}
use Rattle.trees.specs.Edits.{Place}
use Rattle.requests.specs.declared.call.Call.{Call}
use Rattle.runs.specs.declared.call.Refusal.{Refusal}
use Rattle.runs.specs.declared.call.Refusal.TheVariants.{BadSize}
use Rattle.runs.specs.Calls.{Kind, regions, accepted, Outcome}
use Rattle.runs.specs.States.{State, Cells, meant, JustMade}
use Rattle.runs.specs.Effects.{Exact}
use Rattle.runs.specs.Runs.{Turn, history, state}
use Rattle.moments.specs.Invariant.{open_sessions, Framed, scene_at, ExactRun}
use Rattle.moments.proofs.Runs.{runs_keep, run_kept}
use Rattle.calls.specs.Does.{asked, asked_of, DoesBy, DoesCells, Does, Makes}
use Rattle.promise.specs.Theorems.{Parts, Promised}
use Rattle.promise.proofs.Making.{not_made, making_well}
use Rattle.throughout.proofs.Joins.{lookups_kept}
use Rattle.promise.proofs.Exacts.{calls_exact}

-- what is asked first is the size of the store
size_asked : {K F : Type 0} (kd : Kind K F) (x : State (Cells K)) (c : Call K) → (InRange (length x.memory) → ⊥) → asked kd x c ≡ Some BadSize
unfolding asked
size_asked {F = F} kd x c h = ap (λ b. cond b (asked_of kd x c) (Some BadSize)) (not_made (length x.memory) h)

module _ {M K F : Type 0} (kd : Kind K F) (laws : Laws (regions kd)) (parts : Parts kd) (cells : M → Cells K) (fit : M → Type 0)
    (lawful : (m : M) → fit m → FitCells (cells m)) where
  made : (m : M) (z : State M) → fit m → Makes kd cells fit m z → fit z.memory × JustMade kd.filler (meant cells z)
  made m z f mk =
      let g = mk.keeps f in
      (g, (making_well kd (cells m) (meant cells z) mk.makes).made (lawful m f) (lawful z.memory g))

  does :
      (z : State (Cells K)) (ts : List (Turn (Cells K) K F)) (p : Place ℕ (Region K)) (x y : State M) (c : Call K) (a : Outcome K F) →
      ExactRun kd z ts p → meant cells x ≡ state z ts → fit x.memory → Does kd cells fit x c a y →
      fit y.memory × ((p' : Place ℕ (Region K)) × Exact kd (scene_at kd z ts p) c a (meant cells y) p' ×
      Framed (accepted a) kd.filler c (open_sessions (history ts)) (state z ts) (meant cells y) p p')
  does z ts p x y c a r e f d =
      let g = d.keeps f in
      let s = subst (λ (w : State (Cells K)). DoesCells kd w c a (meant cells y)) e d.does in
      let h = calls_exact kd parts z ts p c a (meant cells y) (runs_keep kd laws z ts p r) (lookups_kept kd laws z ts p r) s (lawful y.memory g) in
      (g, (h.after, h.exact, h.framed))

  pub promised : Promised kd cells fit
  promised = record {
    made = made;
    kept = run_kept kd laws cells fit (Makes kd cells fit) (Does kd cells fit) lawful made (lookups_kept kd laws) does;
    out_of_range_made = λ m z h mk. (making_well kd (cells m) (meant cells z) mk.makes).out_of_range h;
    out_of_range = λ x y c a h d.
        subst (λ (o : Option (Refusal F)). DoesBy kd o c (meant cells x) a (meant cells y)) (size_asked kd (meant cells x) c h) d.does;
  }
