-- The invariant gives what the lookups ask for, and both together the whole promise.
use Rattle.std.proofs.Common.{◌≡◌, ℕ, ◌<◌, ◌≤◌, List, [], ◌∷◌, Some, None, Option, refl, subst, inl, inr, arith}
use native.Mathlib.Decide.{dec_le}
use Rattle.store.specs.declared.node.Region.{Region}
use Rattle.store.specs.Fits.{FitCells}
use Rattle.trees.specs.Regions.{Laws}
use Rattle.trees.specs.Edits.{Place}
use Rattle.requests.specs.declared.call.Call.{Call}
use Rattle.runs.specs.Calls.{Kind, regions, accepted, Outcome}
use Rattle.runs.specs.Histories.{First, Lookup}
use Rattle.runs.specs.States.{State, Cells, meant, row_of, pool, JustMade}
use Rattle.runs.specs.Effects.{Exact}
use Rattle.runs.specs.Runs.{Turn, history, state, meant_turns, Run}
use Rattle.runs.specs.Promise.{PlaceStands, Kept, Throughout}
use Rattle.lookups.specs.Throughout.{RestKept, RestThroughout, LookupsKept}
use Rattle.lookups.proofs.Invariant.{AnsweredAt, GoesOrAnswered, all_stand}
use Rattle.lookups.proofs.Promised.{lookups_follow}
use Rattle.moments.specs.Invariant.{RowOfOpen, RowFits, open_sessions, Framed, scene_at, Inv, ExactRun}
use Rattle.moments.proofs.Gives.{gives}
use Rattle.moments.proofs.Edits.{edit_steps}
use Rattle.moments.proofs.Runs.{runs_keep, kept_whole, run_kept}
use Rattle.moments.proofs.Uses.{open_seated}
use Rattle.throughout.specs.Promises.{ExactRunsKeep, ToldAt, CanGoOn, Finds, LookupsReady}

module _ {K F : Type 0} (kd : Kind K F) (laws : Laws (regions kd)) where
  rest_kept : (z : State (Cells K)) (ts : List (Turn (Cells K) K F)) (p : Place ℕ (Region K)) → Inv kd z ts p → RestKept kd z ts p
  rest_kept z ts p v = record {
    store_fit = v.fit;
    tree_stands = v.tree;
    stands = v.stands;
    tree_spells = v.spells;
    others = (gives kd z ts p v).others;
  }

  pub rest_throughout : (z : State (Cells K)) (ts : List (Turn (Cells K) K F)) (p : Place ℕ (Region K)) → ExactRun kd z ts p → RestThroughout kd z ts p
  rest_throughout z [] p r = let v = runs_keep kd laws z [] p r in (rest_kept z [] p v, v.all_rows)
  rest_throughout z (t ∷ ts) p' r =
      let v = runs_keep kd laws z ts r.0 r.1 in (
        rest_kept z (t ∷ ts) p' (runs_keep kd laws z (t ∷ ts) p' r),
        (
          r.0,
          rest_throughout z ts r.0 r.1,
          record {
            exact = r.2;
            steps = λ e d ok.
                let g = edit_steps kd laws z ts r.0 t.call e t.answer t.after p' v d ok r.2 in
                record { well = g.well; taken = g.taken };
          },
        ),
      )

  pub lookups_kept : (z : State (Cells K)) (ts : List (Turn (Cells K) K F)) (p : Place ℕ (Region K)) → ExactRun kd z ts p → LookupsKept kd z ts
  lookups_kept z ts p r = lookups_follow kd laws z ts p (rest_throughout z ts p r)

  kept : (z : State (Cells K)) (ts : List (Turn (Cells K) K F)) (p : Place ℕ (Region K)) → ExactRun kd z ts p → Kept kd z ts
  kept z ts p r = kept_whole kd laws z ts p r (lookups_kept z ts p r)

  pub exact_runs_keep : ExactRunsKeep kd
  exact_runs_keep z [] p r = kept z [] p r
  exact_runs_keep z (t ∷ ts) p r = (kept z (t ∷ ts) p r, exact_runs_keep z ts r.0 r.1)

  -- A STEP

  can_go_on : (z : State (Cells K)) (ts : List (Turn (Cells K) K F)) (q : ℕ) → PlaceStands kd z ts q → CanGoOn kd (state z ts).memory q
  can_go_on z ts q (inl e) = inl e
  can_go_on z ts q (inr s) = inr (s.0, s.1)

  pub lookups_ready : LookupsReady kd
  lookups_ready z ts p s l r e = record { seated = open_seated kd z ts p s l v e; finds = by_first l.first refl ((all_stand kd laws z ts p (rest_throughout z ts p r)).each s l e).so fits }
    where
      v : Inv kd z ts p
      v = runs_keep kd laws z ts p r

      k : LookupsKept kd z ts
      k = lookups_kept z ts p r

      fits : RowFits (Some l) (row_of (state z ts) s)
      fits = subst (λ (o : Option (Lookup K)). RowFits o (row_of (state z ts) s)) e (v.rows s)

      few : l.first ≡ None → l.steps < pool (state z ts).memory
      few d = by_dec (dec_le (pool z.memory) l.steps)
        where
          by_dec : Dec (pool z.memory ≤ l.steps) → l.steps < pool (state z ts).memory
          by_dec (yes h) = absurd (k.lookups_end s l e h d)
          by_dec (no h) = let m = v.as_many in omega arith

      by_gave :
          (o : Option (Region K)) → AnsweredAt kd z ts p s l o → ToldAt kd (state z ts).memory o (row_of (state z ts) s).place
      by_gave None a = a
      by_gave (Some x) a = (a.there, a.can_be_read, a.told)

      by_first :
          (o : Option (First K)) → l.first ≡ o → GoesOrAnswered kd z ts p s l o → RowOfOpen l o (row_of (state z ts) s) →
          Finds kd (state z ts).memory l o (row_of (state z ts) s)
      by_first None d g w = (w.0, w.1, few d, can_go_on z ts (row_of (state z ts) s).place (k.places_stand s l e))
      by_first (Some f) d g w = (w.0, w.1, by_gave f.gave g.at_place)

-- A CATALOGUE over memories that mean cells: its making makes, and each of its calls is exact after every run of exact calls.
module _ {M K F : Type 0} (kd : Kind K F) (laws : Laws (regions kd)) (cells : M → Cells K) (fit : M → Type 0) (Makes : M → State M → Type 0)
    (Does : State M → Call K → Outcome K F → State M → Type 0) (lawful : (m : M) → fit m → FitCells (cells m))
    (made : (m : M) (z : State M) → fit m → Makes m z → fit z.memory × JustMade kd.filler (meant cells z))
    (does :
    (z : State (Cells K)) (ts : List (Turn (Cells K) K F)) (p : Place ℕ (Region K)) (x y : State M) (c : Call K) (a : Outcome K F) →
    ExactRun kd z ts p → meant cells x ≡ state z ts → fit x.memory → Does x c a y →
    fit y.memory × ((p' : Place ℕ (Region K)) × Exact kd (scene_at kd z ts p) c a (meant cells y) p' ×
    Framed (accepted a) kd.filler c (open_sessions (history ts)) (state z ts) (meant cells y) p p')) where
  pub every_run_kept :
      (z : State M) (ts : List (Turn M K F)) → Run fit Makes Does z ts →
      fit (state z ts).memory × Throughout kd (meant cells z) (meant_turns cells ts)
  every_run_kept z ts r = run_kept kd laws cells fit Makes Does lawful made (lookups_kept kd laws) does z ts r
