-- The promise over runs, for the making and the calls as they are told, put together from the parts in which it is shown.
use Rattle.std.specs.Prelude.{◌≡◌, ℕ, List, length}
use Rattle.store.specs.declared.node.Region.{Region}
use Rattle.store.specs.Fits.{InRange, FitCells}
use Rattle.trees.specs.Edits.{Place}
use Rattle.requests.specs.declared.call.Call.{Call}
use Rattle.runs.specs.Calls.{Kind, Outcome}
use Rattle.runs.specs.States.{State, Cells, JustMade}
use Rattle.runs.specs.Runs.{Turn, state}
use Rattle.runs.specs.Promise.{Promise}
use Rattle.lookups.specs.Throughout.{LookupsKept}
use Rattle.moments.specs.Invariant.{Inv}
use Rattle.calls.specs.Does.{DoesCells, MakesCells, Does, Makes}
use Rattle.calls.specs.Exacts.{CallExact, AskedExact, ActsExact, EditsByTable, EditsAsMade}

module _ {K F : Type 0} (kd : Kind K F) where
  -- what is shown of the single calls
  pub record Parts : Type 0 where
    pub asked : AskedExact kd
    pub acts : ActsExact kd
    pub by_table : EditsByTable kd
    pub as_made : EditsAsMade kd

  -- THE MAKING over fit cells leaves a catalogue just made; where they are too few or too many it writes nothing
  pub record MakesWell (cs : Cells K) (z : State (Cells K)) : Type 0 where
    pub made : FitCells cs → FitCells z.memory → JustMade kd.filler z
    pub out_of_range : (InRange (length cs) → ⊥) → z.memory ≡ cs

  abbrev pub MakingWell : Type 0
  MakingWell = (cs : Cells K) (z : State (Cells K)) → MakesCells kd cs z → MakesWell cs z

  -- EVERY CALL IS EXACT, if its parts are
  abbrev pub CallsExact : Type 0
  CallsExact =
      Parts → (z : State (Cells K)) (ts : List (Turn (Cells K) K F)) (p : Place ℕ (Region K)) (c : Call K) (a : Outcome K F) (y : State (Cells K)) →
      Inv kd z ts p → LookupsKept kd z ts → DoesCells kd (state z ts) c a y → FitCells y.memory → CallExact kd z ts p c a y

  -- THE PROMISE, over memories of which the fit ones mean fit cells
  abbrev pub Promised : {M : Type 0} → (M → Cells K) → (M → Type 0) → Type 0
  Promised cells fit = Promise kd cells fit (Makes kd cells fit) (Does kd cells fit)
