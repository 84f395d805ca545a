-- That the calls do exactly what the rules say, in the parts in which it is shown.
use Rattle.std.specs.Prelude.{◌≡◌, ℕ, List, reverse, length, Some, None, Ok, Err, Option, Result}
use Rattle.store.specs.Fits.{FitCells}
use Rattle.store.specs.Nodes.{region}
use Rattle.store.specs.declared.node.Region.{Region}
use Rattle.trees.specs.Edits.{Place}
use Rattle.search.specs.Frees.{Chosen}
use Rattle.commits.specs.Commits.{Writes, GoneInside}
use Rattle.edits.specs.declared.fault.Refusal.{Refusal as EditRefusal}
use Rattle.edits.specs.Calls.{Change}
use Rattle.requests.specs.declared.call.Call.{Call}
use Rattle.requests.specs.declared.call.Call.TheVariants.{Put, Drop, Split, Advance, Open, Step, Close, Counts}
use Rattle.runs.specs.declared.call.Refusal.{Refusal}
use Rattle.runs.specs.declared.call.Answer.TheVariants.{Pending}
use Rattle.runs.specs.Calls.{Kind, edit_of, accepted, Outcome}
use Rattle.runs.specs.States.{State, Cells}
use Rattle.runs.specs.Table.{Scene, Fits, FirstLine}
use Rattle.runs.specs.Effects.{Done, Exact}
use Rattle.runs.specs.Runs.{Turn, history, state}
use Rattle.moments.specs.Invariant.{open_sessions, scene_at, FrameOf, Framed, Inv}
use Rattle.lookups.specs.Throughout.{LookupsKept}
use Rattle.calls.specs.Does.{edit_refusal, asked, Acts, put_of, drop_of, split_of, advance_of}

module _ {K F : Type 0} (kd : Kind K F) where
  -- a call is exact, and leaves every cell as it may; the tree is at the place `after`
  pub record CallExact (z : State (Cells K)) (ts : List (Turn (Cells K) K F)) (p : Place ℕ (Region K)) (c : Call K) (a : Outcome K F) (y : State (Cells K)) : Type 0 where
    pub after : Place ℕ (Region K)
    pub exact : Exact kd (scene_at kd z ts p) c a y after
    pub framed : Framed (accepted a) kd.filler c (open_sessions (history ts)) (state z ts) y p after

  -- WHAT IS ASKED FIRST: a refusal for the store's size, the session or a key
  abbrev pub AskedExact : Type 0
  AskedExact =
      (z : State (Cells K)) (ts : List (Turn (Cells K) K F)) (p : Place ℕ (Region K)) (c : Call K) (r : Refusal F) → Inv kd z ts p →
      asked kd (state z ts) c ≡ Some r → CallExact z ts p c (Err r) (state z ts)

  -- THE CALLS OF SESSIONS AND COUNTS
  abbrev pub ActsExact : Type 0
  ActsExact =
      (z : State (Cells K)) (ts : List (Turn (Cells K) K F)) (p : Place ℕ (Region K)) (c : Call K) (a : Outcome K F) (y : State (Cells K)) →
      Inv kd z ts p → LookupsKept kd z ts → edit_of c ≡ None → asked kd (state z ts) c ≡ None → Acts kd c (state z ts) a y → FitCells y.memory →
      CallExact z ts p c a y

  -- THE EDITS

  -- what is told of a call that is an edit, for the numbers of new nodes
  abbrev pub edit_told : State (Cells K) → Call K → Option (List ℕ → Result (Change K) EditRefusal)
  edit_told x (Put low high rows) = Some (put_of kd x (region low high rows))
  edit_told x (Drop k) = Some (drop_of kd x k)
  edit_told x (Split k m n) = Some (split_of kd x k m n)
  edit_told x Advance = Some (advance_of kd x)
  edit_told x (Open s k) = None
  edit_told x (Step s) = None
  edit_told x (Close s) = None
  edit_told x Counts = None

  -- it is refused by the first line of the table that fits, and done where none does
  pub record ByTable (x : Scene K F) (c : Call K) (told : List ℕ → Result (Change K) EditRefusal) : Type 0 where
    pub refused : (ns : List ℕ) (e : EditRefusal) → told ns ≡ Err e → FirstLine kd x c (edit_refusal e)
    pub no_line : (ns : List ℕ) (ch : Change K) → told ns ≡ Ok ch → (r : Refusal F) → Fits kd x c r → ⊥

  abbrev pub EditsByTable : Type 0
  EditsByTable =
      (z : State (Cells K)) (ts : List (Turn (Cells K) K F)) (p : Place ℕ (Region K)) (c : Call K) (told : List ℕ → Result (Change K) EditRefusal) →
      Inv kd z ts p → edit_told (state z ts) c ≡ Some told → asked kd (state z ts) c ≡ None → ByTable (scene_at kd z ts p) c told

  -- what is done is what the rules say, with new nodes at the free numbers ns
  pub record EditMade (z : State (Cells K)) (ts : List (Turn (Cells K) K F)) (p : Place ℕ (Region K)) (c : Call K) (ch : Change K) (y : State (Cells K)) : Type 0 where
    pub after : Place ℕ (Region K)
    pub done : Done kd (scene_at kd z ts p) c (Ok (Pending (length ch.path))) y after
    pub framed : FrameOf kd.filler c (open_sessions (history ts)) (state z ts) y p after

  abbrev pub EditsAsMade : Type 0
  EditsAsMade =
      (z : State (Cells K)) (ts : List (Turn (Cells K) K F)) (p : Place ℕ (Region K)) (c : Call K) (told : List ℕ → Result (Change K) EditRefusal)
      (ns : List ℕ) (ch : Change K) (y : State (Cells K)) →
      Inv kd z ts p → edit_told (state z ts) c ≡ Some told → asked kd (state z ts) c ≡ None → Chosen (state z ts).memory ns → told ns ≡ Ok ch → GoneInside (length (state z ts).memory) ch.writes →
      Writes (state z ts).memory ch.writes y.memory → y.root ≡ ch.root → y.pending ≡ reverse ch.path → y.rows ≡ (state z ts).rows →
      FitCells y.memory → EditMade z ts p c ch y
