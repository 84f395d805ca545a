-- The whole promise, of runs whose every call is exact; and what a step of a lookup finds after such a run.
use Rattle.std.specs.Prelude.{◌≡◌, ℕ, ◌<◌, ◌⊎◌, List, Some, None, Option}
use Rattle.store.specs.declared.node.Node.{Node}
use Rattle.store.specs.declared.node.Region.{Region}
use Rattle.store.specs.Cells.{readable, cell_at}
use Rattle.store.specs.Nodes.{region_of}
use Rattle.trees.specs.Edits.{Place}
use Rattle.runs.specs.Calls.{Kind}
use Rattle.runs.specs.Histories.{First, Lookup, lookup}
use Rattle.runs.specs.States.{State, Cells, Row, going, answered, row_of, pool}
use Rattle.runs.specs.Runs.{Turn, history, state}
use Rattle.runs.specs.Promise.{Throughout}
use Rattle.moments.specs.Invariant.{ExactRun}
use Rattle.moments.specs.Theorems.{Seated}

module _ {K F : Type 0} (kd : Kind K F) where
  -- where each call of a run answers and does what the rules say and leaves every cell as it may, the promise holds at every moment of it
  abbrev pub ExactRunsKeep : Type 0
  ExactRunsKeep = (z : State (Cells K)) (ts : List (Turn (Cells K) K F)) (p : Place ℕ (Region K)) → ExactRun kd z ts p → Throughout kd z ts

  -- A STEP of a lookup l that is open after a run of exact calls

  -- at the place q stands what was told: no node, or one with the region
  abbrev pub ToldAt : Cells K → Option (Region K) → ℕ → Type 0
  ToldAt cs None q = q ≡ 0
  ToldAt cs (Some x) q = (v : Node K) × (cell_at cs q ≡ readable v) × (region_of v ≡ x)

  -- no node, or one that can be read
  abbrev pub CanGoOn : Cells K → ℕ → Type 0
  CanGoOn cs q = (q ≡ 0) ⊎ ((v : Node K) × (cell_at cs q ≡ readable v))

  -- while it goes it has made fewer steps than the pool has nodes
  abbrev pub Finds : Cells K → Lookup K → Option (First K) → Row → Type 0
  Finds cs l None w = (w.stage ≡ going) × (w.steps ≡ l.steps) × (l.steps < pool cs) × CanGoOn cs w.place
  Finds cs l (Some f) w = (w.stage ≡ answered) × (w.steps ≡ f.steps) × ToldAt cs f.gave w.place

  pub record Ready (z : State (Cells K)) (ts : List (Turn (Cells K) K F)) (s : ℕ) (l : Lookup K) : Type 0 where
    pub seated : Seated kd z ts s l
    pub finds : Finds (state z ts).memory l l.first (row_of (state z ts) s)

  abbrev pub LookupsReady : Type 0
  LookupsReady =
      (z : State (Cells K)) (ts : List (Turn (Cells K) K F)) (p : Place ℕ (Region K)) (s : ℕ) (l : Lookup K) → ExactRun kd z ts p →
      lookup s (history ts) ≡ Some l → Ready z ts s l
