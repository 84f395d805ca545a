-- What is proved of the invariant, as statements for contracts.
use Rattle.std.specs.Prelude.{◌≡◌, ℕ, suc, ◌+◌, ◌/◌, ◌%◌, ◌^◌, ◌<◌, ◌≤◌, Bool, true, false, ◌⊎◌, List, [], ◌∷◌, length, Some, None, bit_xor, nat_eq, Err}
use Rattle.store.specs.Cells.{readable, cell_at}
use Rattle.store.specs.Fits.{FitCells}
use Rattle.store.specs.Nodes.{plain}
use Rattle.store.specs.declared.node.Region.{Region}
use Rattle.trees.specs.Trees.{leaf}
use Rattle.trees.specs.Edits.{Place, place, whole, Edit}
use Rattle.trees.specs.Paths.{In}
use Rattle.trees.specs.Steps.{StepsWell}
use Rattle.requests.specs.declared.call.Call.{Call}
use Rattle.requests.specs.declared.call.Call.TheVariants.{Open, Step, Close, Counts}
use Rattle.runs.specs.Calls.{Kind, regions, edit_of, accepted, Outcome}
use Rattle.runs.specs.declared.call.Refusal.TheVariants.{FewFree}
use Rattle.runs.specs.Histories.{set_of, Lookup, lookup, bits}
use Rattle.runs.specs.States.{State, Cells, row_of, pool, waiting_nodes, free_nodes, Free, TreeAt, JustMade}
use Rattle.runs.specs.Effects.{Exact}
use Rattle.runs.specs.Runs.{Turn, turn, history, state}
use Rattle.runs.specs.Promise.{Kept}
use Rattle.lookups.specs.Throughout.{LookupsKept}
use Rattle.moments.specs.Invariant.{in_use, open_sessions, but_for, FrameEdit, FrameOpen, FrameClose, FrameNone, Framed, scene_at, Inv, KeptBase, ExactRun}

module _ {K F : Type 0} (kd : Kind K F) where
  -- THE MAKING over fit cells begins it
  abbrev pub MadeInv : Type 0
  MadeInv = (z : State (Cells K)) → JustMade kd.filler z → FitCells z.memory → Inv kd z [] (place [] leaf)

  -- IT GIVES the promise, but for the last call's answer and the lookups' answers and places
  abbrev pub InvGives : Type 0
  InvGives = (z : State (Cells K)) (ts : List (Turn (Cells K) K F)) (p : Place ℕ (Region K)) → Inv kd z ts p → KeptBase kd z ts p

  -- CALLS KEEP IT, where they answer and do what the rules say and leave every other cell as they may

  -- an accepted put, drop, split or advance
  abbrev pub EditKeeps : Type 0
  EditKeeps =
      (z : State (Cells K)) (ts : List (Turn (Cells K) K F)) (p : Place ℕ (Region K)) (c : Call K) (e : Edit K (Region K)) (a : Outcome K F)
      (y : State (Cells K)) (p' : Place ℕ (Region K)) → Inv kd z ts p → edit_of c ≡ Some e → accepted a ≡ true →
      Exact kd (scene_at kd z ts p) c a y p' → TreeAt y p' → FrameEdit (state z ts) y (whole p) (whole p') (open_sessions (history ts)) →
      Inv kd z (turn c a y ∷ ts) p'

  -- an accepted open, step, close and counts
  abbrev pub OpenKeeps : Type 0
  OpenKeeps =
      (z : State (Cells K)) (ts : List (Turn (Cells K) K F)) (p : Place ℕ (Region K)) (s : ℕ) (k : K) (a : Outcome K F) (y : State (Cells K)) →
      Inv kd z ts p → accepted a ≡ true → Exact kd (scene_at kd z ts p) (Open s k) a y p → FrameOpen s k kd.filler (state z ts) y →
      Inv kd z (turn (Open s k) a y ∷ ts) p

  abbrev pub StepKeeps : Type 0
  StepKeeps =
      (z : State (Cells K)) (ts : List (Turn (Cells K) K F)) (p : Place ℕ (Region K)) (s : ℕ) (a : Outcome K F) (y : State (Cells K)) →
      Inv kd z ts p → accepted a ≡ true → Exact kd (scene_at kd z ts p) (Step s) a y p → FrameNone (state z ts) y →
      Inv kd z (turn (Step s) a y ∷ ts) p

  abbrev pub CloseKeeps : Type 0
  CloseKeeps =
      (z : State (Cells K)) (ts : List (Turn (Cells K) K F)) (p : Place ℕ (Region K)) (s : ℕ) (a : Outcome K F) (y : State (Cells K)) →
      Inv kd z ts p → accepted a ≡ true → Exact kd (scene_at kd z ts p) (Close s) a y p → FrameClose s (state z ts) y →
      Inv kd z (turn (Close s) a y ∷ ts) p

  abbrev pub CountsKeep : Type 0
  CountsKeep =
      (z : State (Cells K)) (ts : List (Turn (Cells K) K F)) (p : Place ℕ (Region K)) (a : Outcome K F) (y : State (Cells K)) →
      Inv kd z ts p → accepted a ≡ true → Exact kd (scene_at kd z ts p) Counts a y p → FrameNone (state z ts) y →
      Inv kd z (turn Counts a y ∷ ts) p

  -- any call that is refused
  abbrev pub RefusedKeeps : Type 0
  RefusedKeeps =
      (z : State (Cells K)) (ts : List (Turn (Cells K) K F)) (p : Place ℕ (Region K)) (c : Call K) (a : Outcome K F) (y : State (Cells K)) →
      Inv kd z ts p → accepted a ≡ false → Exact kd (scene_at kd z ts p) c a y p → length y.memory ≡ length (state z ts).memory →
      Inv kd z (turn c a y ∷ ts) p

  -- any call
  abbrev pub CallsKeep : Type 0
  CallsKeep =
      (z : State (Cells K)) (ts : List (Turn (Cells K) K F)) (p : Place ℕ (Region K)) (c : Call K) (a : Outcome K F) (y : State (Cells K))
      (p' : Place ℕ (Region K)) → Inv kd z ts p → Exact kd (scene_at kd z ts p) c a y p' →
      Framed (accepted a) kd.filler c (open_sessions (history ts)) (state z ts) y p p' → Inv kd z (turn c a y ∷ ts) p'

  -- NODES TO TAKE

  -- with no lookup open no node waits, all that the regions leave of the pool is free, and that is 96 nodes at least
  pub record AllClosed (z : State (Cells K)) (ts : List (Turn (Cells K) K F)) : Type 0 where
    pub none_waits : waiting_nodes (state z ts).memory ≡ 0
    pub rest_is_free : length (set_of kd (history ts)) + free_nodes (state z ts).memory ≡ pool z.memory
    pub enough : 96 ≤ free_nodes (state z ts).memory

  abbrev pub ClosingFrees : Type 0
  ClosingFrees =
      (z : State (Cells K)) (ts : List (Turn (Cells K) K F)) (p : Place ℕ (Region K)) → Inv kd z ts p →
      ((s : ℕ) → lookup s (history ts) ≡ None) → AllClosed z ts

  -- so a call is refused for want of free nodes only while a lookup is open
  abbrev pub ThirteenOnlyWhileOpen : Type 0
  ThirteenOnlyWhileOpen =
      (z : State (Cells K)) (ts : List (Turn (Cells K) K F)) (p : Place ℕ (Region K)) (c : Call K) (y : State (Cells K)) (p' : Place ℕ (Region K)) →
      Inv kd z ts p → Exact kd (scene_at kd z ts p) c (Err FewFree) y p' → (s : ℕ) × (l : Lookup K) × (lookup s (history ts) ≡ Some l)

  -- SESSIONS

  -- the sessions whose row is in use are those with an open lookup
  abbrev pub RowsTell : Type 0
  RowsTell =
      (z : State (Cells K)) (ts : List (Turn (Cells K) K F)) (p : Place ℕ (Region K)) → Inv kd z ts p →
      bits (λ s. in_use (row_of (state z ts) s).stage) 32 ≡ open_sessions (history ts)

  -- an open lookup's key is in its session's seat, which can be read
  pub record Seated (z : State (Cells K)) (ts : List (Turn (Cells K) K F)) (s : ℕ) (l : Lookup K) : Type 0 where
    pub session : s < 32
    pub formed : kd.fault l.key ≡ None
    pub seat : cell_at (state z ts).memory (suc s) ≡ readable (plain 3 l.key kd.filler)
    pub begun : l.since ≤ length ts

  abbrev pub OpenSeated : Type 0
  OpenSeated =
      (z : State (Cells K)) (ts : List (Turn (Cells K) K F)) (p : Place ℕ (Region K)) (s : ℕ) (l : Lookup K) → Inv kd z ts p →
      lookup s (history ts) ≡ Some l → Seated z ts s l

  -- TREES: an accepted edit takes the tree on as the theory of trees says, and takes no node but free ones
  pub record TreeGoesOn (cs : Cells K) (e : Edit K (Region K)) (p p' : Place ℕ (Region K)) : Type 0 where
    pub well : StepsWell (regions kd) e p p'
    pub taken : (q : ℕ) → In q (whole p') → In q (whole p) ⊎ Free cs q

  abbrev pub EditSteps : Type 0
  EditSteps =
      (z : State (Cells K)) (ts : List (Turn (Cells K) K F)) (p : Place ℕ (Region K)) (c : Call K) (e : Edit K (Region K)) (a : Outcome K F)
      (y : State (Cells K)) (p' : Place ℕ (Region K)) → Inv kd z ts p → edit_of c ≡ Some e → accepted a ≡ true →
      Exact kd (scene_at kd z ts p) c a y p' → TreeGoesOn (state z ts).memory e p p'

  -- RUNS

  -- a run of exact calls has the invariant at its end
  abbrev pub RunsKeep : Type 0
  RunsKeep = (z : State (Cells K)) (ts : List (Turn (Cells K) K F)) (p : Place ℕ (Region K)) → ExactRun kd z ts p → Inv kd z ts p

  -- with what it asks besides of lookups, the promise holds at the end of a run of exact calls
  abbrev pub KeptWhole : Type 0
  KeptWhole =
      (z : State (Cells K)) (ts : List (Turn (Cells K) K F)) (p : Place ℕ (Region K)) → ExactRun kd z ts p → LookupsKept kd z ts → Kept kd z ts

-- BITS of the sessions that f picks, and of those but s, by the arithmetic of a machine word
pub record BitLost (f : ℕ → Bool) (s n : ℕ) : Type 0 where
  pub told : nat_eq (bits f n / 2 ^ s % 2) 1 ≡ f s
  pub lost : f s ≡ true → bit_xor (bits f n) (2 ^ s) ≡ bits (but_for s f) n
  pub stays : f s ≡ false → bits f n ≡ bits (but_for s f) n

abbrev pub BitsLose : Type 0
BitsLose = (f : ℕ → Bool) (s n : ℕ) → s < n → BitLost f s n
