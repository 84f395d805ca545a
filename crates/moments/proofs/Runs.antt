-- Runs of exact calls keep the invariant; and so do the runs of a catalogue whose calls are exact.
use Rattle.std.proofs.Common.{◌≡◌, ℕ, List, [], ◌∷◌, sym, refl, subst}
use Rattle.store.specs.Fits.{FitCells}
use Rattle.store.specs.declared.node.Region.{Region}
use Rattle.trees.specs.Regions.{Laws}
use Rattle.trees.specs.Trees.{leaf}
use Rattle.trees.specs.Edits.{Place, place}
use Rattle.requests.specs.declared.call.Call.{Call}
use Rattle.runs.specs.Calls.{Kind, regions, accepted, Outcome}
use Rattle.runs.specs.States.{State, Cells, meant, JustMade}
use Rattle.runs.specs.Effects.{Exact}
use Rattle.runs.specs.Runs.{Turn, turn, history, state, meant_turns, Run, making, calling}
use Rattle.runs.specs.Promise.{LastExact, Throughout}
use Rattle.runs.proofs.Chains.{place_is_enough}
use Rattle.moments.specs.Invariant.{open_sessions, Framed, scene_at, Inv, ExactRun}
use Rattle.lookups.specs.Throughout.{LookupsKept}
use Rattle.moments.specs.Theorems.{RunsKeep, KeptWhole}
use Rattle.moments.proofs.Makes.{made_inv}
use Rattle.moments.proofs.Gives.{gives}
use Rattle.moments.proofs.Turns.{calls_keep}

module _ {K F : Type 0} (kd : Kind K F) (laws : Laws (regions kd)) where
  pub runs_keep : RunsKeep kd
  runs_keep z [] p r = subst (Inv kd z []) (sym r.2) (made_inv kd laws z r.0 r.1)
  runs_keep z (t ∷ ts) p' r =
      calls_keep kd laws z ts r.0 t.call t.answer t.after p' (runs_keep z ts r.0 r.1) r.2 r.3

  -- the last call is exact for whatever place the state before it has
  last_exact : (z : State (Cells K)) (ts : List (Turn (Cells K) K F)) (p : Place ℕ (Region K)) → ExactRun kd z ts p → LastExact kd z ts p
  last_exact z [] p r = tt
  last_exact z (t ∷ ts) p' r = λ before b.
      let v = runs_keep z ts r.0 r.1 in
      place_is_enough kd (scene_at kd z ts r.0) r.0 before t.call t.answer t.after p' v.tree b v.stands.distinct v.told r.2

  pub kept_whole : KeptWhole kd
  kept_whole z ts p r l =
      let b = gives kd z ts p (runs_keep z ts p r) in
      record {
        store_fit = b.store_fit;
        place = p;
        tree_stands = b.tree_stands;
        tree_spells = b.tree_spells;
        tree_distinct = b.tree_distinct;
        set_is_one = b.set_is_one;
        exact = last_exact z ts p r;
        others = b.others;
        edit_told = b.edit_told;
        lookups_true = l.lookups_true;
        none_14 = b.none_14;
        places_stand = l.places_stand;
        lookups_end = l.lookups_end;
        adds_up = b.adds_up;
        live_are_regions = b.live_are_regions;
        waiting_have_left = b.waiting_have_left;
        balanced_at_rest = b.balanced_at_rest;
        low_at_rest = b.low_at_rest;
      }

-- A CATALOGUE over memories that mean cells: its making makes, each of its calls is exact after every run of exact calls, and lookups
-- are true at the end of each.

pub state_meant :
    {M C K F : Type 0} (f : M → C) (z : State M) (ts : List (Turn M K F)) → meant f (state z ts) ≡ state (meant f z) (meant_turns f ts)
state_meant f z [] = refl
state_meant f z (t ∷ ts) = refl

module _ {M K F : Type 0} (kd : Kind K F) (laws : Laws (regions kd)) (cells : M → Cells K) (fit : M → Type 0) (Makes : M → State M → Type 0)
    (Does : State M → Call K → Outcome K F → State M → Type 0) (lawful : (m : M) → fit m → FitCells (cells m))
    (made : (m : M) (z : State M) → fit m → Makes m z → fit z.memory × JustMade kd.filler (meant cells z))
    (follow : (z : State (Cells K)) (ts : List (Turn (Cells K) K F)) (p : Place ℕ (Region K)) → ExactRun kd z ts p → LookupsKept kd z ts)
    (does :
    (z : State (Cells K)) (ts : List (Turn (Cells K) K F)) (p : Place ℕ (Region K)) (x y : State M) (c : Call K) (a : Outcome K F) →
    ExactRun kd z ts p → meant cells x ≡ state z ts → fit x.memory → Does x c a y →
    fit y.memory × ((p' : Place ℕ (Region K)) × Exact kd (scene_at kd z ts p) c a (meant cells y) p' ×
    Framed (accepted a) kd.filler c (open_sessions (history ts)) (state z ts) (meant cells y) p p')) where
  record Along (z : State M) (ts : List (Turn M K F)) : Type 0 where
    stays_fit : fit (state z ts).memory
    at : Place ℕ (Region K)
    exact : ExactRun kd (meant cells z) (meant_turns cells ts) at
    throughout : Throughout kd (meant cells z) (meant_turns cells ts)

  along : (z : State M) (ts : List (Turn M K F)) → Run fit Makes Does z ts → Along z ts
  along z ts (making m f mk) =
      let b = made m z f mk in
      let r : ExactRun kd (meant cells z) [] (place [] leaf) = (b.1, lawful z.memory b.0, refl) in
      record {
        stays_fit = b.0;
        at = place [] leaf;
        exact = r;
        throughout = kept_whole kd laws (meant cells z) [] (place [] leaf) r (follow (meant cells z) [] (place [] leaf) r);
      }
  along z ts (calling us c a y r d) = goes_on (along z us r)
    where
      goes_on : Along z us → Along z (turn c a y ∷ us)
      goes_on l =
          let b = does (meant cells z) (meant_turns cells us) l.at (state z us) y c a l.exact (state_meant cells z us) l.stays_fit d in
          let e : ExactRun kd (meant cells z) (meant_turns cells (turn c a y ∷ us)) b.1.0 = (l.at, l.exact, b.1.1, b.1.2) in
          let vs = meant_turns cells (turn c a y ∷ us) in
          record {
            stays_fit = b.0;
            at = b.1.0;
            exact = e;
            throughout = (kept_whole kd laws (meant cells z) vs b.1.0 e (follow (meant cells z) vs b.1.0 e), l.throughout);
          }

  pub run_kept :
      (z : State M) (ts : List (Turn M K F)) → Run fit Makes Does z ts →
      fit (state z ts).memory × Throughout kd (meant cells z) (meant_turns cells ts)
  run_kept z ts r = let l = along z ts r in (l.stays_fit, l.throughout)
