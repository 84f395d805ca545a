-- What a run keeps of its lookups, if it keeps the rest: the tree and its regions, the nodes out of the tree, and that each call did
-- exactly what the rules say.
use Rattle.std.specs.Prelude.{◌≡◌, ℕ, ◌≤◌, true, ◌⊎◌, List, [], ◌∷◌, length, Some, None, ◌≢◌}
use Rattle.store.specs.declared.node.Region.{Region}
use Rattle.store.specs.Fits.{FitCells}
use Rattle.trees.specs.Trees.{inorder}
use Rattle.trees.specs.Edits.{Place, whole, Edit}
use Rattle.trees.specs.Paths.{In}
use Rattle.trees.specs.Steps.{Stands, StepsWell}
use Rattle.requests.specs.declared.call.Call.{Call}
use Rattle.runs.specs.Calls.{Kind, regions, edit_of, accepted, Outcome}
use Rattle.runs.specs.Histories.{First, Lookup, lookup, set_of}
use Rattle.runs.specs.States.{State, Cells, row_of, pool, Free, TreeAt}
use Rattle.runs.specs.Table.{Scene}
use Rattle.runs.specs.Effects.{Exact}
use Rattle.runs.specs.Runs.{Turn, history, state}
use Rattle.runs.specs.Promise.{OtherNodes, TrueAt, PlaceStands}

-- what a call after the calls ts finds
abbrev pub scene_after : {K F : Type 0} → State (Cells K) → List (Turn (Cells K) K F) → Place ℕ (Region K) → Scene K F
scene_after z ts p = record { past = history ts; state = state z ts; place = p }

module _ {K F : Type 0} (kd : Kind K F) where
  -- AT A MOMENT, after the calls ts from the state z of the making, with the tree of p
  pub record RestKept (z : State (Cells K)) (ts : List (Turn (Cells K) K F)) (p : Place ℕ (Region K)) : Type 0 where
    pub store_fit : FitCells (state z ts).memory
    pub tree_stands : TreeAt (state z ts) p
    pub stands : Stands (regions kd) p
    pub tree_spells : inorder (whole p) ≡ set_of kd (history ts)
    pub others : OtherNodes kd z ts

  -- OVER A CALL

  -- an accepted edit takes the tree on as it should, and takes no node but free ones
  pub record TreeSteps (cs : Cells K) (e : Edit K (Region K)) (p p' : Place ℕ (Region K)) : Type 0 where
    pub well : StepsWell (regions kd) e p p'
    pub taken : (q : ℕ) → In q (whole p') → In q (whole p) ⊎ Free cs q

  pub record CallKept (z : State (Cells K)) (ts : List (Turn (Cells K) K F)) (c : Call K) (a : Outcome K F) (y : State (Cells K)) (p p' : Place ℕ (Region K)) : Type 0 where
    pub exact : Exact kd (scene_after z ts p) c a y p'
    pub steps : (e : Edit K (Region K)) → edit_of c ≡ Some e → accepted a ≡ true → TreeSteps (state z ts).memory e p p'

  -- AFTER THE MAKING AND EVERY CALL
  abbrev pub RestThroughout : State (Cells K) → List (Turn (Cells K) K F) → Place ℕ (Region K) → Type 0
  RestThroughout z [] p = RestKept z [] p × (length z.rows ≡ 32)
  RestThroughout z (t ∷ ts) p' =
      RestKept z (t ∷ ts) p' × ((p : Place ℕ (Region K)) × RestThroughout z ts p × CallKept z ts t.call t.answer t.after p p')

  -- WHAT IS PROMISED OF LOOKUPS at a moment
  pub record LookupsKept (z : State (Cells K)) (ts : List (Turn (Cells K) K F)) : Type 0 where
    pub lookups_true :
        (s : ℕ) (l : Lookup K) (f : First K) → lookup s (history ts) ≡ Some l → l.first ≡ Some f → TrueAt kd (history ts) l f
    pub places_stand : (s : ℕ) (l : Lookup K) → lookup s (history ts) ≡ Some l → PlaceStands kd z ts (row_of (state z ts) s).place
    pub lookups_end :
        (s : ℕ) (l : Lookup K) → lookup s (history ts) ≡ Some l → pool z.memory ≤ l.steps → l.first ≢ None

  abbrev pub LookupsFollow : Type 0
  LookupsFollow = (z : State (Cells K)) (ts : List (Turn (Cells K) K F)) (p : Place ℕ (Region K)) → RestThroughout z ts p → LookupsKept z ts
