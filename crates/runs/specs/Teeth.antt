-- That the promise has teeth: the making meets it, it speaks of one tree and one refusal, and cheats do not meet it.
use Rattle.std.specs.Prelude.{◌≡◌, ℕ, suc, ◌+◌, ◌<◌, ◌≤◌, true, false, ◌⊎◌, List, [], ◌∷◌, length, Some, None, Option, ◌≢◌, slice_set, Ok, Err}
use Rattle.keys.specs.declared.whole.Whole.{Whole}
use Rattle.store.specs.declared.node.Node.{Node}
use Rattle.store.specs.Cells.{readable, cell_at, all_shut}
use Rattle.store.specs.Fits.{FitCells}
use Rattle.trees.specs.Regions.{Region as WellMade}
use Rattle.trees.specs.Trees.{seek}
use Rattle.trees.specs.Paths.{In, Distinct}
use Rattle.trees.specs.Edits.{Place, whole}
use Rattle.store.specs.Nodes.{region, region_of}
use Rattle.store.specs.declared.node.Region.{Region}
use Rattle.requests.specs.declared.call.Call.{Call}
use Rattle.requests.specs.declared.call.Call.TheVariants.{Put, Drop, Open, Step, Counts}
use Rattle.runs.specs.declared.call.Answer.TheVariants.{Pending, Opened, Closed, On, Nothing, Found, Nodes}
use Rattle.runs.specs.declared.call.Refusal.{Refusal}
use Rattle.runs.specs.declared.call.Refusal.TheVariants.{FewFree}
use Rattle.runs.specs.Calls.{Kind, regions, accepted, Outcome}
use Rattle.runs.specs.Histories.{Lookup, lookup, set_of, to_do}
use Rattle.runs.specs.States.{State, Cells, row, going, row_of, pool, waiting_nodes, free_nodes, InPool, InTree, TreeAt, JustMade}
use Rattle.runs.specs.Table.{Scene, FirstLine}
use Rattle.runs.specs.Effects.{Onward, Exact}
use Rattle.runs.specs.Runs.{Turn, turn, history, state, LeftDuring, NumberOf}
use Rattle.runs.specs.Promise.{Kept}
use Rattle.runs.specs.Examples.{wholes, put}

-- ONE TREE: a state has at most one, and its nodes are those that links lead to from the root link

pub record OneTree (K : Type 0) : Type 0 where
  pub same : (z : State (Cells K)) (p q : Place ℕ (Region K)) → TreeAt z p → TreeAt z q → whole p ≡ whole q
  pub leads_to_its_nodes : (z : State (Cells K)) (p : Place ℕ (Region K)) (q : ℕ) → TreeAt z p → InTree z q → In q (whole p)
  pub leads_to_all_of_them : (z : State (Cells K)) (p : Place ℕ (Region K)) (q : ℕ) → TreeAt z p → In q (whole p) → InTree z q

-- the scene with another place
abbrev pub at_place : {K F : Type 0} → Scene K F → Place ℕ (Region K) → Scene K F
at_place x p = record { past = x.past; state = x.state; place = p }

-- ONE MEANING: pending nodes tell the way to a link but for its last turn. Whichever link below the lowest is taken, a call is
-- exact for one place if it is for the other, where the history tells how many nodes are pending.
abbrev pub PlaceIsEnough : {K F : Type 0} → Kind K F → Type 0
PlaceIsEnough {K} {F} kd =
    (x : Scene K F) (p q : Place ℕ (Region K)) (c : Call K) (a : Outcome K F) (y : State (Cells K)) (after : Place ℕ (Region K)) →
    TreeAt x.state p → TreeAt x.state q → Distinct (whole p) → to_do x.past ≡ length x.state.pending →
    Exact kd (at_place x p) c a y after → Exact kd (at_place x q) c a y after

-- x is one of a list
abbrev pub Among : {A : Type 0} → A → List A → Type 0
Among x [] = ⊥
Among x (y ∷ ys) = (y ≡ x) ⊎ Among x ys

-- the steps that an answer tells
abbrev pub steps_told : {K F : Type 0} → Outcome K F → Option ℕ
steps_told (Ok (On n)) = Some n
steps_told (Ok (Nothing n)) = Some n
steps_told (Ok (Found x n)) = Some n
steps_told (Ok (Pending n)) = None
steps_told (Ok Opened) = None
steps_told (Ok Closed) = None
steps_told (Ok (Nodes a b c)) = None
steps_told (Err r) = None

module _ {K F : Type 0} (kd : Kind K F) where
  -- ONE REFUSAL: the table tells one, its number, and for 5 the argument and the fault too
  abbrev pub OneRefusal : Type 0
  OneRefusal = (x : Scene K F) (c : Call K) (r r' : Refusal F) → FirstLine kd x c r → FirstLine kd x c r' → r ≡ r'

  -- THE MAKING MEETS IT
  abbrev pub MakingKeeps : Type 0
  MakingKeeps = (z : State (Cells K)) → JustMade kd.filler z → FitCells z.memory → Kept kd z []

  -- and it can be met after a call: the first put of a region with well-formed keys, low below high, can leave a state that meets it
  abbrev pub FirstPutCanKeep : Type 0
  FirstPutCanKeep =
      (z : State (Cells K)) (low high : K) (rows : ℕ) → JustMade kd.filler z → FitCells z.memory →
      WellMade (regions kd) (region low high rows) → (y : State (Cells K)) × Kept kd z (turn (Put low high rows) (Ok (Pending 0)) y ∷ [])

  -- CHEATS, and what each is refuted by

  -- a put that is accepted and leaves no tree: tree_spells with tree_stands
  abbrev pub IdlePutFails : Type 0
  IdlePutFails =
      (z y : State (Cells K)) (ts : List (Turn (Cells K) K F)) (low high : K) (rows n : ℕ) →
      Kept kd z (turn (Put low high rows) (Ok (Pending n)) y ∷ ts) → y.root ≢ 0

  -- a tree outside the store's nodes: for each region of the set a readable pool node of mark 1 has it, and is in the tree
  pub record HasNode (z : State (Cells K)) (x : Region K) : Type 0 where
    pub number : ℕ
    pub content : Node K
    pub in_tree : InTree z number
    pub in_pool : InPool z.memory number
    pub can_be_read : cell_at z.memory number ≡ readable content
    pub mark_one : content.mark ≡ 1
    pub the_region : region_of content ≡ x

  abbrev pub TreeIsInStore : Type 0
  TreeIsInStore =
      (z : State (Cells K)) (ts : List (Turn (Cells K) K F)) (x : Region K) → Kept kd z ts → Among x (set_of kd (history ts)) → HasNode (state z ts) x

  -- a store that closes all: seats
  abbrev pub ClosingAllFails : Type 0
  ClosingAllFails = (z : State (Cells K)) (ts : List (Turn (Cells K) K F)) (cs : Cells K) → Kept kd z ts → (state z ts).memory ≢ all_shut cs

  -- refusing calls: the first put of a region with well-formed keys, low below high, is accepted, by refused_by
  abbrev pub FirstPutIsTaken : Type 0
  FirstPutIsTaken =
      (z y : State (Cells K)) (low high : K) (rows : ℕ) (a : Outcome K F) → JustMade kd.filler z → FitCells z.memory →
      WellMade (regions kd) (region low high rows) → Kept kd z (turn (Put low high rows) a y ∷ []) → a ≡ Ok (Pending 0)

  -- calls that never refuse: a drop from the empty set is refused, by refused_if
  abbrev pub FirstDropIsRefused : Type 0
  FirstDropIsRefused =
      (z y : State (Cells K)) (k : K) (a : Outcome K F) → JustMade kd.filler z → Kept kd z (turn (Drop k) a y ∷ []) → accepted a ≡ false

  -- constant calls: a counts after that first put does not answer what the put did, by answers
  abbrev pub ConstantFails : Type 0
  ConstantFails =
      (z y y' : State (Cells K)) (low high : K) (rows : ℕ) (a : Outcome K F) → JustMade kd.filler z → FitCells z.memory →
      WellMade (regions kd) (region low high rows) → Kept kd z (turn (Put low high rows) a y ∷ []) →
      Kept kd z (turn Counts a y' ∷ (turn (Put low high rows) a y ∷ [])) → ⊥

  -- 13 with nodes to spare: a call that is refused so finds fewer free nodes than `most`, a put fewer than `one`, by refused_by
  pub record FewAreFree (most one : ℕ) (c : Call K) (free : ℕ) : Type 0 where
    pub at_all : free < most
    pub at_put : (low high : K) (rows : ℕ) → c ≡ Put low high rows → free < one

  abbrev pub ThirteenIsTrue : ℕ → ℕ → Type 0
  ThirteenIsTrue most one =
      (z y : State (Cells K)) (ts : List (Turn (Cells K) K F)) (c : Call K) → Kept kd z ts →
      Kept kd z (turn c (Err FewFree) y ∷ ts) → FewAreFree most one c (free_nodes (state z ts).memory)

  -- a lookup finished in open: an open leaves the lookup at the root link with no step made, whatever the tree, by answers
  abbrev pub OpenOnlyOpens : Type 0
  OpenOnlyOpens =
      (z y : State (Cells K)) (ts : List (Turn (Cells K) K F)) (s : ℕ) (k : K) → Kept kd z ts → Kept kd z (turn (Open s k) (Ok Opened) y ∷ ts) →
      y.rows ≡ slice_set (state z ts).rows s (row going (state z ts).root 0)

  -- none at a node that was not compared: a lookup that was at a node has read it, and its key leads to link 0 there, by Steps
  abbrev pub NoneIsCompared : Type 0
  NoneIsCompared =
      (z y : State (Cells K)) (ts : List (Turn (Cells K) K F)) (s n : ℕ) (l : Lookup K) → Kept kd z ts → lookup s (history ts) ≡ Some l →
      l.first ≡ None → 1 ≤ (row_of (state z ts) s).place → Kept kd z (turn (Step s) (Ok (Nothing n)) y ∷ ts) →
      (v : Node K) × (cell_at (state z ts).memory (row_of (state z ts) s).place ≡ readable v) ×
      Onward (seek (regions kd) l.key (region_of v)) v 0

  -- invented steps: until it is answered, a lookup's answers carry just its accepted steps, this one too, by Steps
  abbrev pub StepsAreCounted : Type 0
  StepsAreCounted =
      (z y : State (Cells K)) (ts : List (Turn (Cells K) K F)) (s : ℕ) (a : Outcome K F) (l : Lookup K) → Kept kd z ts →
      lookup s (history ts) ≡ Some l → l.first ≡ None → accepted a ≡ true → Kept kd z (turn (Step s) a y ∷ ts) →
      steps_told a ≡ Some (suc l.steps)

  -- invented counts: what counts tells are the regions, the nodes that left, and the rest of the pool, by answers
  pub record Truth (z : State (Cells K)) (ts : List (Turn (Cells K) K F)) (live waiting free : ℕ) : Type 0 where
    pub regions_stand : live ≡ length (set_of kd (history ts))
    pub have_left : NumberOf (LeftDuring z ts) waiting
    pub all_nodes : live + waiting + free ≡ pool z.memory

  abbrev pub CountsTellTruth : Type 0
  CountsTellTruth =
      (z y : State (Cells K)) (ts : List (Turn (Cells K) K F)) (a b c : ℕ) → Kept kd z ts →
      Kept kd z (turn Counts (Ok (Nodes a b c)) y ∷ ts) → Truth z ts a b c

  -- nodes freed at once: a node has left during a lookup still open, and none waits: waiting_have_left
  abbrev pub FreedAtOnceFails : Type 0
  FreedAtOnceFails =
      (z : State (Cells K)) (ts : List (Turn (Cells K) K F)) (q : ℕ) →
      Kept kd z ts → LeftDuring z ts q → waiting_nodes (state z ts).memory ≢ 0

  pub record CheatsFail : Type 0 where
    pub idle_put : IdlePutFails
    pub tree_elsewhere : TreeIsInStore
    pub closing_all : ClosingAllFails
    pub refusing : FirstPutIsTaken
    pub never_refusing : FirstDropIsRefused
    pub constant : ConstantFails
    pub nodes_to_spare : ThirteenIsTrue 96 1
    pub finished_in_open : OpenOnlyOpens
    pub not_compared : NoneIsCompared
    pub invented_steps : StepsAreCounted
    pub invented_counts : CountsTellTruth
    pub freed_at_once : FreedAtOnceFails

-- an edit that is over at once: the put of [30,40) beside [10,20) leaves so many nodes pending, by answers and tree_made
abbrev pub SecondPutLeaves : ℕ → Type 0
SecondPutLeaves pending =
    (z y y' : State (Cells Whole)) (n : ℕ) → Kept wholes z (turn (put 10 20 5) (Ok (Pending 0)) y ∷ []) →
    Kept wholes z (turn (put 30 40 7) (Ok (Pending n)) y' ∷ (turn (put 10 20 5) (Ok (Pending 0)) y ∷ [])) → n ≡ pending
