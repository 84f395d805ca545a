-- Any call keeps the invariant.
use Rattle.std.proofs.Common.{◌≡◌, ℕ, Bool, true, false, List, ◌∷◌, sym, refl, subst}
use Rattle.store.specs.declared.node.Region.{Region}
use Rattle.trees.specs.Regions.{Laws}
use Rattle.trees.specs.Edits.{Place}
use Rattle.requests.specs.declared.call.Call.{Call}
use Rattle.requests.specs.declared.call.Call.TheVariants.{Put, Drop, Split, Advance, Open, Step, Close, Counts}
use Rattle.runs.specs.Calls.{Kind, regions, accepted, Outcome}
use Rattle.runs.specs.States.{State, Cells}
use Rattle.runs.specs.Effects.{Exact}
use Rattle.runs.specs.Runs.{Turn, turn, history, state}
use Rattle.moments.specs.Invariant.{open_sessions, FrameOf, Framed, scene_at, Inv}
use Rattle.moments.specs.Theorems.{CallsKeep}
use Rattle.moments.proofs.Edits.{edit_keeps}
use Rattle.moments.proofs.Calls.{open_keeps, step_keeps, counts_keep, refused_keeps}
use Rattle.moments.proofs.Closes.{close_keeps}

module _ {K F : Type 0} (kd : Kind K F) (laws : Laws (regions kd)) (z : State (Cells K)) (ts : List (Turn (Cells K) K F)) (p : Place ℕ (Region K))
    (a : Outcome K F) (y : State (Cells K)) (v : Inv kd z ts p) where
  -- a call that leaves the tree has the same place after it
  there :
      (c : Call K) (p' : Place ℕ (Region K)) → p' ≡ p → Exact kd (scene_at kd z ts p) c a y p' →
      (Exact kd (scene_at kd z ts p) c a y p → Inv kd z (turn c a y ∷ ts) p) → Inv kd z (turn c a y ∷ ts) p'
  there c p' e ex keeps = subst (Inv kd z (turn c a y ∷ ts)) (sym e) (keeps (subst (Exact kd (scene_at kd z ts p) c a y) e ex))

  by_call :
      (c : Call K) (p' : Place ℕ (Region K)) → accepted a ≡ true → Exact kd (scene_at kd z ts p) c a y p' →
      FrameOf kd.filler c (open_sessions (history ts)) (state z ts) y p p' → Inv kd z (turn c a y ∷ ts) p'
  by_call (Put low high rows) p' ok ex f = edit_keeps kd laws z ts p (Put low high rows) _ a y p' v refl ok ex f.0 f.1
  by_call (Drop k) p' ok ex f = edit_keeps kd laws z ts p (Drop k) _ a y p' v refl ok ex f.0 f.1
  by_call (Split b i j) p' ok ex f = edit_keeps kd laws z ts p (Split b i j) _ a y p' v refl ok ex f.0 f.1
  by_call Advance p' ok ex f = edit_keeps kd laws z ts p Advance _ a y p' v refl ok ex f.0 f.1
  by_call (Open s k) p' ok ex f = there (Open s k) p' f.0 ex (λ e. open_keeps kd z ts p s k a y v ok e f.1)
  by_call (Step s) p' ok ex f = there (Step s) p' f.0 ex (λ e. step_keeps kd z ts p s a y v ok e f.1)
  by_call (Close s) p' ok ex f = there (Close s) p' f.0 ex (λ e. close_keeps kd z ts p s a y v ok e f.1)
  by_call Counts p' ok ex f = there Counts p' f.0 ex (λ e. counts_keep kd z ts p a y v ok e f.1)

  by_answer :
      (b : Bool) (c : Call K) (p' : Place ℕ (Region K)) → accepted a ≡ b → Exact kd (scene_at kd z ts p) c a y p' →
      Framed b kd.filler c (open_sessions (history ts)) (state z ts) y p p' → Inv kd z (turn c a y ∷ ts) p'
  by_answer true c p' ok ex f = by_call c p' ok ex f
  by_answer false c p' out ex f = there c p' f.0 ex (λ e. refused_keeps kd z ts p c a y v out e f.1)

pub calls_keep : {K F : Type 0} (kd : Kind K F) → Laws (regions kd) → CallsKeep kd
calls_keep kd laws z ts p c a y p' v ex f = by_answer kd laws z ts p a y v (accepted a) c p' refl ex f
