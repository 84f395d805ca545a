-- What holds at every moment of a run, of the tree, the pool, the nodes that wait, the seats and the rows; and what each call leaves of
-- every cell.
use Rattle.std.specs.Prelude.{◌≡◌, ℕ, suc, ◌+◌, ◌-◌, ◌<◌, ◌≤◌, Bool, true, false, cond, T, List, [], ◌∷◌, length, Some, None, Option, ◌==◌, ◌≢◌}
use Rattle.store.specs.declared.node.Node.{Node}
use Rattle.store.specs.declared.node.Region.{Region}
use Rattle.store.specs.Cells.{Cell, readable, mark_of, cell_at}
use Rattle.store.specs.Fits.{FitCells}
use Rattle.store.specs.Nodes.{plain}
use Rattle.trees.specs.Regions.{RegionSet}
use Rattle.trees.specs.Trees.{Tree, leaf, inorder, height, Balanced}
use Rattle.trees.specs.Edits.{Place, place, whole}
use Rattle.trees.specs.Paths.{In, Distinct}
use Rattle.trees.specs.Steps.{Stands}
use Rattle.requests.specs.declared.call.Call.{Call}
use Rattle.requests.specs.declared.call.Call.TheVariants.{Put, Drop, Split, Advance, Open, Step, Close, Counts}
use Rattle.runs.specs.Calls.{Kind, regions, accepted}
use Rattle.runs.specs.Histories.{History, set_of, to_do, First, Lookup, lookup, open_since, seat_key, bits}
use Rattle.runs.specs.States.{State, Cells, Stage, Row, closed, going, answered, row_of, waiting, pool, InPool, live_nodes, waiting_nodes, free_nodes, TreeAt, JustMade}
use Rattle.runs.specs.Table.{Scene}
use Rattle.runs.specs.Effects.{Exact}
use Rattle.runs.specs.Runs.{Turn, history, state, LeftAfter, LeftDuring, NumberOf}
use Rattle.runs.specs.Promise.{None14, OtherNodes}

-- THE SESSIONS WITH AN OPEN LOOKUP

abbrev pub has_one : {K : Type 0} → Option (Lookup K) → Bool
has_one None = false
has_one (Some l) = true

-- bit s for each session s that has one
abbrev pub open_sessions : {K F : Type 0} → History K F → ℕ
open_sessions h = bits (λ s. has_one (lookup s h)) 32

-- those that f picks, but for s
abbrev pub but_for : ℕ → (ℕ → Bool) → ℕ → Bool
but_for s f n = cond (n == s) false (f n)

-- ROWS

-- a row that is not closed
abbrev pub in_use : Stage → Bool
in_use closed = false
in_use going = true
in_use answered = true

-- where a lookup stands that gave this: at no node if none, else at one
abbrev pub StandsBy : {K : Type 0} → Option (Region K) → ℕ → Type 0
StandsBy None p = p ≡ 0
StandsBy (Some x) p = 1 ≤ p

-- a row's steps are those that were made while going
abbrev pub RowOfOpen : {K : Type 0} → Lookup K → Option (First K) → Row → Type 0
RowOfOpen l None w = (w.stage ≡ going) × (w.steps ≡ l.steps)
RowOfOpen l (Some f) w = (w.stage ≡ answered) × (w.steps ≡ f.steps) × StandsBy f.gave w.place

-- the row fits what the history says of its session's lookup
abbrev pub RowFits : {K : Type 0} → Option (Lookup K) → Row → Type 0
RowFits None w = w.stage ≡ closed
RowFits (Some l) w = RowOfOpen l l.first w

-- WHAT A CALL LEAVES OF EVERY CELL, beside what an accepted call answers and does, or a refused one leaves

module _ {K : Type 0} where
  -- what is left of the node v that waits for the sessions w: with none it is free; else its region and its links stay
  pub record LeftBehind (v : Node K) (w : ℕ) (c : Cell K) : Type 0 where
    pub freed : w ≡ 0 → mark_of c ≡ 0
    pub waits : (w ≢ 0) → (size : ℕ) × (c ≡ readable (waiting v size w))

  -- an edit from the tree t to the tree u, while these sessions have a lookup: a node that leaves waits for them. Of the nodes of u
  -- the tree after it says what they are.
  pub record FrameEdit (x y : State (Cells K)) (t u : Tree ℕ (Region K)) (sessions : ℕ) : Type 0 where
    pub as_many : length y.memory ≡ length x.memory
    pub leaves :
        (q : ℕ) (v : Node K) → In q t → (In q u → ⊥) → cell_at x.memory q ≡ readable v → LeftBehind v sessions (cell_at y.memory q)
    pub others : (q : ℕ) → (In q t → ⊥) → (In q u → ⊥) → cell_at y.memory q ≡ cell_at x.memory q

  -- what no session's call changes
  pub record SameTree (x y : State (Cells K)) : Type 0 where
    pub root : y.root ≡ x.root
    pub pending : y.pending ≡ x.pending
    pub as_many : length y.memory ≡ length x.memory

  -- open writes the session's seat whole
  pub record FrameOpen (s : ℕ) (k filler : K) (x y : State (Cells K)) : Type 0 where
    pub same : SameTree x y
    pub seat : cell_at y.memory (suc s) ≡ readable (plain 3 k filler)
    pub others : (q : ℕ) → 1 ≤ q → (q ≢ suc s) → cell_at y.memory q ≡ cell_at x.memory q

  -- a node that waits when session s closes waits for the others of its sessions
  pub record FrameClose (s : ℕ) (x y : State (Cells K)) : Type 0 where
    pub same : SameTree x y
    pub released :
        (q : ℕ) (v : Node K) (f : ℕ → Bool) → cell_at x.memory q ≡ readable v → v.mark ≡ 2 → v.waits ≡ bits f 32 →
        LeftBehind v (bits (but_for s f) 32) (cell_at y.memory q)
    pub others : (q : ℕ) → (mark_of (cell_at x.memory q) ≢ 2) → cell_at y.memory q ≡ cell_at x.memory q

  -- step and counts write nothing
  pub record FrameNone (x y : State (Cells K)) : Type 0 where
    pub same : SameTree x y
    pub cells : (q : ℕ) → cell_at y.memory q ≡ cell_at x.memory q

  -- the same by the call: an edit takes the tree at p to the tree at p', every other call leaves it
  abbrev pub FrameOf : K → Call K → ℕ → State (Cells K) → State (Cells K) → Place ℕ (Region K) → Place ℕ (Region K) → Type 0
  FrameOf filler (Put low high rows) n x y p p' = TreeAt y p' × FrameEdit x y (whole p) (whole p') n
  FrameOf filler (Drop k) n x y p p' = TreeAt y p' × FrameEdit x y (whole p) (whole p') n
  FrameOf filler (Split b i j) n x y p p' = TreeAt y p' × FrameEdit x y (whole p) (whole p') n
  FrameOf filler Advance n x y p p' = TreeAt y p' × FrameEdit x y (whole p) (whole p') n
  FrameOf filler (Open s k) n x y p p' = (p' ≡ p) × FrameOpen s k filler x y
  FrameOf filler (Step s) n x y p p' = (p' ≡ p) × FrameNone x y
  FrameOf filler (Close s) n x y p p' = (p' ≡ p) × FrameClose s x y
  FrameOf filler Counts n x y p p' = (p' ≡ p) × FrameNone x y

  -- and whether it was accepted; a refused call leaves as many nodes
  abbrev pub Framed : Bool → K → Call K → ℕ → State (Cells K) → State (Cells K) → Place ℕ (Region K) → Place ℕ (Region K) → Type 0
  Framed true filler c n x y p p' = FrameOf filler c n x y p p'
  Framed false filler c n x y p p' = (p' ≡ p) × (length y.memory ≡ length x.memory)

-- WHAT HOLDS AT EVERY MOMENT: after the calls ts, from the state z of the making, with the tree at p

module _ {K F : Type 0} (kd : Kind K F) where
  abbrev pub scene_at : State (Cells K) → List (Turn (Cells K) K F) → Place ℕ (Region K) → Scene K F
  scene_at z ts p = record { past = history ts; state = state z ts; place = p }

  pub record Inv (z : State (Cells K)) (ts : List (Turn (Cells K) K F)) (p : Place ℕ (Region K)) : Type 0 where
    pub fit : FitCells (state z ts).memory
    pub as_many : length (state z ts).memory ≡ length z.memory
    -- the tree stands, and is the region set in order, for which there is room; its pending nodes are those last told
    pub tree : TreeAt (state z ts) p
    pub stands : Stands (regions kd) p
    pub spells : inorder (whole p) ≡ set_of kd (history ts)
    pub room : length (set_of kd (history ts)) ≤ pool z.memory - 96
    pub told : to_do (history ts) ≡ length (state z ts).pending
    pub short : length (state z ts).pending ≤ 27
    -- a pool node is free, or live and in the tree, or waits
    pub marks : (q : ℕ) → InPool (state z ts).memory q → mark_of (cell_at (state z ts).memory q) ≤ 2
    pub live : (q : ℕ) → InPool (state z ts).memory q → mark_of (cell_at (state z ts).memory q) ≡ 1 → In q (whole p)
    -- it waits just if it left during a lookup still open, and for just the sessions that had one then and have it still
    pub waiting_left : (q : ℕ) → InPool (state z ts).memory q → mark_of (cell_at (state z ts).memory q) ≡ 2 → LeftDuring z ts q
    pub left_waits :
        (q i s : ℕ) → LeftAfter z ts i q → T (open_since (history ts) i s) →
        (v : Node K) × (cell_at (state z ts).memory q ≡ readable v) × (v.mark ≡ 2) × (v.waits ≡ bits (open_since (history ts) i) 32)
    -- no call was answered 14
    pub none_14 : None14 (history ts)
    -- seats, rows and lookups of the 32 sessions
    pub seats : (s : ℕ) → s < 32 → cell_at (state z ts).memory (suc s) ≡ readable (plain 3 (seat_key kd.filler s (history ts)) kd.filler)
    pub all_rows : length (state z ts).rows ≡ 32
    pub rows : (s : ℕ) → RowFits (lookup s (history ts)) (row_of (state z ts) s)
    pub sessions : (s : ℕ) (l : Lookup K) → lookup s (history ts) ≡ Some l → s < 32
    pub formed : (s : ℕ) (l : Lookup K) → lookup s (history ts) ≡ Some l → kd.fault l.key ≡ None

  -- the part of the promise that follows from it, in the promise's words
  pub record KeptBase (z : State (Cells K)) (ts : List (Turn (Cells K) K F)) (place : Place ℕ (Region K)) : Type 0 where
    pub store_fit : FitCells (state z ts).memory
    pub tree_stands : TreeAt (state z ts) place
    pub tree_spells : inorder (whole place) ≡ set_of kd (history ts)
    pub tree_distinct : Distinct (whole place)
    pub set_is_one : RegionSet (regions kd) (set_of kd (history ts))
    pub others : OtherNodes kd z ts
    pub edit_told : to_do (history ts) ≡ length (state z ts).pending
    pub none_14 : None14 (history ts)
    pub adds_up : live_nodes (state z ts).memory + waiting_nodes (state z ts).memory + free_nodes (state z ts).memory ≡ pool z.memory
    pub live_are_regions : live_nodes (state z ts).memory ≡ length (set_of kd (history ts))
    pub waiting_have_left : NumberOf (LeftDuring z ts) (waiting_nodes (state z ts).memory)
    pub balanced_at_rest : to_do (history ts) ≡ 0 → Balanced (whole place)
    pub low_at_rest : to_do (history ts) ≡ 0 → height (whole place) ≤ 27

  -- A RUN OF EXACT CALLS, from the making over fit cells: each answers and does what the rules say and leaves every cell as it may. The
  -- tree is at p.
  abbrev pub ExactRun : State (Cells K) → List (Turn (Cells K) K F) → Place ℕ (Region K) → Type 0
  ExactRun z [] p = JustMade kd.filler z × FitCells z.memory × (p ≡ place [] leaf)
  ExactRun z (t ∷ ts) p' =
      (p : Place ℕ (Region K)) × ExactRun z ts p × Exact kd (scene_at z ts p) t.call t.answer t.after p' ×
      Framed (accepted t.answer) kd.filler t.call (open_sessions (history ts)) (state z ts) t.after p p'
