-- What an accepted call answers and does.
use Rattle.std.specs.Prelude.{◌≡◌, ℕ, suc, ◌+◌, ◌≤◌, true, false, cond, T, ◌⊎◌, List, [], ◌∷◌, length, Some, None, Option, ◌==◌, slice_set, Ok, Err}
use Rattle.store.specs.declared.node.Node.{Node}
use Rattle.store.specs.Cells.{readable, mark_of, cell_at}
use Rattle.trees.specs.Trees.{Turn, to_left, here, to_right, Tree, count, seek}
use Rattle.trees.specs.Edits.{Frame, frame, labels, Place, whole, Edit, Made, edited}
use Rattle.trees.specs.Paths.{MadeAs, new_at}
use Rattle.store.specs.Nodes.{region_of}
use Rattle.store.specs.declared.node.Region.{Region}
use Rattle.requests.specs.declared.call.Call.{Call}
use Rattle.requests.specs.declared.call.Call.TheVariants.{Put, Drop, Split, Advance, Open, Step, Close, Counts}
use Rattle.runs.specs.declared.call.Answer.TheVariants.{Pending, Opened, Closed, On, Nothing, Found, Nodes}
use Rattle.runs.specs.declared.call.Refusal.{Refusal}
use Rattle.runs.specs.Calls.{Kind, regions, edit_of, accepted, Outcome}
use Rattle.runs.specs.Histories.{First, Lookup, lookup}
use Rattle.runs.specs.States.{State, Cells, Row, row, going, answered, as_closed, row_of, member, waiting, live_nodes, waiting_nodes, free_nodes, Free}
use Rattle.runs.specs.Table.{Scene, Fits, FirstLine}

-- STEPS OF A LOOKUP

-- the link that a search goes on by from node v, by the turn that it takes there
abbrev pub Onward : {K : Type 0} → Turn → Node K → ℕ → Type 0
Onward to_left v q = q ≡ v.left
Onward here v q = ⊥
Onward to_right v q = q ≡ v.right

-- an answered lookup repeats its answer
abbrev pub again_gave : {K F : Type 0} → Option (Region K) → ℕ → Outcome K F
again_gave None n = Ok (Nothing n)
again_gave (Some x) n = Ok (Found x n)

abbrev pub again : {K F : Type 0} → First K → Outcome K F
again f = again_gave f.gave f.steps

module _ {K F : Type 0} (kd : Kind K F) where
  -- One step of a lookup for k that is going and has made n steps: its place, the answer, its row after.
  -- It looks at one node, the one at its place.
  pub data Steps (cs : Cells K) (k : K) (n : ℕ) : ℕ → Outcome K F → Row → Type 0 where
    no_place : Steps cs k n 0 (Ok (Nothing (suc n))) (row answered 0 (suc n))
    finds :
        (p : ℕ) (v : Node K) → 1 ≤ p → cell_at cs p ≡ readable v → seek (regions kd) k (region_of v) ≡ here →
        Steps cs k n p (Ok (Found (region_of v) (suc n))) (row answered p (suc n))
    ends :
        (p : ℕ) (v : Node K) → 1 ≤ p → cell_at cs p ≡ readable v → Onward (seek (regions kd) k (region_of v)) v 0 →
        Steps cs k n p (Ok (Nothing (suc n))) (row answered 0 (suc n))
    goes_on :
        (p q : ℕ) (v : Node K) → 1 ≤ p → cell_at cs p ≡ readable v → Onward (seek (regions kd) k (region_of v)) v q → 1 ≤ q →
        Steps cs k n p (Ok (On (suc n))) (row going q (suc n))

  -- what an accepted step of session s answers, and the rows after it
  abbrev pub StepTells : State (Cells K) → ℕ → Lookup K → Option (First K) → Outcome K F → List Row → Type 0
  StepTells z s l (Some f) a rows = (a ≡ again f) × (rows ≡ z.rows)
  StepTells z s l None a rows = (w : Row) × Steps z.memory l.key l.steps (row_of z s).place a w × (rows ≡ slice_set z.rows s w)

  abbrev pub StepAnswers : State (Cells K) → ℕ → Option (Lookup K) → Outcome K F → List Row → Type 0
  StepAnswers z s None a rows = ⊥
  StepAnswers z s (Some l) a rows = StepTells z s l l.first a rows

  -- WHAT AN ACCEPTED CALL ANSWERS, AND THE ROWS OF THE SESSIONS AFTER IT

  -- an edit: how many nodes are pending from then on
  abbrev pub EditAnswers : Scene K F → Edit K (Region K) → Outcome K F → List Row → Type 0
  EditAnswers x e a rows = (a ≡ Ok (Pending (length (edited (regions kd) e x.place).above))) × (rows ≡ x.state.rows)

  abbrev pub EditsAnswer : Scene K F → Option (Edit K (Region K)) → Outcome K F → List Row → Type 0
  EditsAnswer x None a rows = ⊥
  EditsAnswer x (Some e) a rows = EditAnswers x e a rows

  abbrev pub Answers : Scene K F → Call K → Outcome K F → List Row → Type 0
  Answers x (Put low high n) a rows = EditsAnswer x (edit_of (Put low high n)) a rows
  Answers x (Drop k) a rows = EditsAnswer x (edit_of (Drop k)) a rows
  Answers x (Split b m n) a rows = EditsAnswer x (edit_of (Split b m n)) a rows
  Answers x Advance a rows = EditsAnswer x (edit_of Advance) a rows
  Answers x (Open s k) a rows = (a ≡ Ok Opened) × (rows ≡ slice_set x.state.rows s (row going x.state.root 0))
  Answers x (Step s) a rows = StepAnswers x.state s (lookup s x.past) a rows
  Answers x (Close s) a rows = (a ≡ Ok Closed) × (rows ≡ slice_set x.state.rows s (as_closed (row_of x.state s)))
  Answers x Counts a rows =
      (a ≡ Ok (Nodes (live_nodes x.state.memory) (waiting_nodes x.state.memory) (free_nodes x.state.memory))) × (rows ≡ x.state.rows)

  -- THE TREE AFTER IT

  -- what an edit made, with numbers: the nodes above the one link stay, and new nodes are nodes that were free, each taken once
  pub record NumberedAs (cs : Cells K) (made : Made (Region K)) (p : Place ℕ (Region K)) : Type 0 where
    pub path : p.above ≡ made.above
    pub numbered : MadeAs (Free cs) made.grown p.under
    pub once : (n : ℕ) → new_at n made.grown p.under ≤ 1

  -- a call that is no edit leaves the tree and the pending nodes
  abbrev pub TreeAfter : Option (Edit K (Region K)) → Scene K F → Place ℕ (Region K) → Type 0
  TreeAfter None x p = whole p ≡ whole x.place
  TreeAfter (Some e) x p = NumberedAs x.state.memory (edited (regions kd) e x.place) p

  abbrev pub pending_after : Option (Edit K (Region K)) → Scene K F → List ℕ
  pending_after None x = x.state.pending
  pending_after (Some e) x = labels (edited (regions kd) e x.place).above

  -- EVERY OTHER NODE AFTER IT

  -- advance first sets the size of the node that it treats, from its two sides, whether or not a rotation then replaces it
  abbrev pub treated_size : List (Frame ℕ (Region K)) → Tree ℕ (Region K) → ℕ → ℕ → ℕ
  treated_size [] t n was = was
  treated_size (frame s m x u ∷ fs) t n was = cond (n == m) (suc (count t + count u)) was

  abbrev pub size_after : Call K → Place ℕ (Region K) → ℕ → ℕ → ℕ
  size_after Advance p n was = treated_size p.above p.under n was
  size_after (Put low high rows) p n was = was
  size_after (Drop k) p n was = was
  size_after (Split b i j) p n was = was
  size_after (Open s k) p n was = was
  size_after (Step s) p n was = was
  size_after (Close s) p n was = was
  size_after Counts p n was = was

  -- x is what an accepted call found, y the state after it, p its tree
  pub record Done (x : Scene K F) (c : Call K) (a : Outcome K F) (y : State (Cells K)) (p : Place ℕ (Region K)) : Type 0 where
    pub answers : Answers x c a y.rows
    pub tree_made : TreeAfter (edit_of c) x p
    pub pending_made : y.pending ≡ pending_after (edit_of c) x
    -- a pending node keeps its size until its turn comes
    pub size_kept :
        (n : ℕ) (v w : Node K) → T (member n y.pending) →
        cell_at x.state.memory n ≡ readable v → cell_at y.memory n ≡ readable w → w.size ≡ v.size
    -- a node that leaves or waits keeps its region and its links, and its size but for that of the node that advance treats
    pub waiting_kept :
        (n : ℕ) (v : Node K) → mark_of (cell_at y.memory n) ≡ 2 → cell_at x.state.memory n ≡ readable v →
        (w : ℕ) × (cell_at y.memory n ≡ readable (waiting v (size_after c x.place n v.size) w))

  -- A REFUSED CALL alters at most fields other than the mark of free nodes
  pub record Unaltered (x : Scene K F) (y : State (Cells K)) (p : Place ℕ (Region K)) : Type 0 where
    pub same_root : y.root ≡ x.state.root
    pub same_pending : y.pending ≡ x.state.pending
    pub same_rows : y.rows ≡ x.state.rows
    pub same_tree : whole p ≡ whole x.place
    pub same_cells :
        (q : ℕ) → (cell_at y.memory q ≡ cell_at x.state.memory q) ⊎
        ((mark_of (cell_at x.state.memory q) ≡ 0) × (mark_of (cell_at y.memory q) ≡ 0))

  -- EXACTLY WHAT THE RULES SAY: refused exactly when a line of the table fits, and with the smallest that does
  pub record Exact (x : Scene K F) (c : Call K) (a : Outcome K F) (y : State (Cells K)) (p : Place ℕ (Region K)) : Type 0 where
    pub refused_by : (r : Refusal F) → a ≡ Err r → FirstLine kd x c r
    pub refused_if : (r : Refusal F) → Fits kd x c r → accepted a ≡ false
    pub refused_alters : accepted a ≡ false → Unaltered x y p
    pub accepted_does : accepted a ≡ true → Done x c a y p
