-- The promise over runs.
use Rattle.std.specs.Prelude.{◌≡◌, ℕ, suc, ◌+◌, ◌<◌, ◌≤◌, T, ◌⊎◌, List, [], ◌∷◌, length, Some, None, ◌≢◌, Err}
use Rattle.store.specs.declared.node.Node.{Node}
use Rattle.store.specs.declared.fault.StoreFault.{StoreFault}
use Rattle.store.specs.Cells.{readable, mark_of, cell_at}
use Rattle.store.specs.Fits.{InRange, FitCells}
use Rattle.trees.specs.Regions.{RegionSet, gives}
use Rattle.trees.specs.Trees.{inorder, height, Balanced}
use Rattle.trees.specs.Edits.{Place, whole}
use Rattle.trees.specs.Paths.{Distinct}
use Rattle.store.specs.Nodes.{plain}
use Rattle.store.specs.declared.node.Region.{Region}
use Rattle.runs.specs.declared.call.Doing.{Doing}
use Rattle.requests.specs.declared.call.Call.{Call}
use Rattle.runs.specs.declared.call.Refusal.TheVariants.{BadSize, StoreRefused}
use Rattle.runs.specs.Calls.{Kind, regions, Outcome}
use Rattle.runs.specs.Histories.{History, at, set_of, to_do, First, Lookup, lookup, open_since, seat_key, bits}
use Rattle.runs.specs.States.{State, Cells, meant, row_of, pool, InPool, live_nodes, waiting_nodes, free_nodes, InTree, TreeAt, JustMade}
use Rattle.runs.specs.Effects.{Exact}
use Rattle.runs.specs.Runs.{Turn, history, state, meant_turns, LeftAfter, LeftDuring, Run, NumberOf}

-- no call of a history was answered 14
abbrev pub None14 : {K F : Type 0} → History K F → Type 0
None14 [] = Unit {0}
None14 (e ∷ h) = ((d : Doing) (f : StoreFault) → e.answer ≢ Err (StoreRefused d f)) × None14 h

module _ {K F : Type 0} (kd : Kind K F) where
  -- AT A MOMENT: after the calls ts, from the state z of the making

  -- the last call, if there is one: whatever tree the state before it has, p is the tree after it
  abbrev pub LastExact : State (Cells K) → List (Turn (Cells K) K F) → Place ℕ (Region K) → Type 0
  LastExact z [] p = Unit {0}
  LastExact z (t ∷ ts) p =
      (before : Place ℕ (Region K)) → TreeAt (state z ts) before →
      Exact kd (record { past = history ts; state = state z ts; place = before }) t.call t.answer t.after p

  -- every node that is not in the tree
  pub record OtherNodes (z : State (Cells K)) (ts : List (Turn (Cells K) K F)) : Type 0 where
    pub as_many : length (state z ts).memory ≡ length z.memory
    pub seats : (s : ℕ) → s < 32 → cell_at (state z ts).memory (suc s) ≡ readable (plain 3 (seat_key kd.filler s (history ts)) kd.filler)
    -- a node that left during lookups still open waits for just their sessions
    pub waits :
        (q i s : ℕ) → LeftAfter z ts i q → T (open_since (history ts) i s) →
        (v : Node K) × (cell_at (state z ts).memory q ≡ readable v) × (v.mark ≡ 2) × (v.waits ≡ bits (open_since (history ts) i) 32)
    pub rest_free :
        (q : ℕ) → InPool (state z ts).memory q → (InTree (state z ts) q → ⊥) → (LeftDuring z ts q → ⊥) →
        mark_of (cell_at (state z ts).memory q) ≡ 0

  -- a lookup's found or none is what the set gave for its key at some moment from its opening to its first such answer
  pub record TrueAt (h : History K F) (l : Lookup K) (f : First K) : Type 0 where
    pub moment : ℕ
    pub not_before_opening : l.since ≤ moment
    pub not_after_answer : moment ≤ f.moment
    pub set_gave : gives (regions kd) (set_of kd (at moment h)) l.key ≡ f.gave

  -- a lookup stands at no node, or at one that can be read and is in the tree or left it during a lookup still open
  abbrev pub PlaceStands : State (Cells K) → List (Turn (Cells K) K F) → ℕ → Type 0
  PlaceStands z ts p =
      (p ≡ 0) ⊎ ((v : Node K) × (cell_at (state z ts).memory p ≡ readable v) × (InTree (state z ts) p ⊎ LeftDuring z ts p))

  -- WHAT HOLDS AT A MOMENT
  pub record Kept (z : State (Cells K)) (ts : List (Turn (Cells K) K F)) : Type 0 where
    pub store_fit : FitCells (state z ts).memory
    -- the tree of the store's nodes, in order, is the region set
    pub place : Place ℕ (Region K)
    pub tree_stands : TreeAt (state z ts) place
    pub tree_spells : inorder (whole place) ≡ set_of kd (history ts)
    pub tree_distinct : Distinct (whole place)
    pub set_is_one : RegionSet (regions kd) (set_of kd (history ts))
    -- the last call did and answered, or refused, exactly what the rules say
    pub exact : LastExact z ts place
    pub others : OtherNodes z ts
    pub edit_told : to_do (history ts) ≡ length (state z ts).pending
    -- every answer of a lookup is true
    pub lookups_true :
        (s : ℕ) (l : Lookup K) (f : First K) → lookup s (history ts) ≡ Some l → l.first ≡ Some f → TrueAt (history ts) l f
    -- no lookup fails, and each comes to an end
    pub none_14 : None14 (history ts)
    pub places_stand : (s : ℕ) (l : Lookup K) → lookup s (history ts) ≡ Some l → PlaceStands z ts (row_of (state z ts) s).place
    pub lookups_end :
        (s : ℕ) (l : Lookup K) → lookup s (history ts) ≡ Some l → pool z.memory ≤ l.steps → l.first ≢ None
    -- no node is lost, and at rest the tree is balanced and low
    pub adds_up : live_nodes (state z ts).memory + waiting_nodes (state z ts).memory + free_nodes (state z ts).memory ≡ pool z.memory
    pub live_are_regions : live_nodes (state z ts).memory ≡ length (set_of kd (history ts))
    pub waiting_have_left : NumberOf (LeftDuring z ts) (waiting_nodes (state z ts).memory)
    pub balanced_at_rest : to_do (history ts) ≡ 0 → Balanced (whole place)
    pub low_at_rest : to_do (history ts) ≡ 0 → height (whole place) ≤ 27

  -- after the making and after every call
  abbrev pub Throughout : State (Cells K) → List (Turn (Cells K) K F) → Type 0
  Throughout z [] = Kept z []
  Throughout z (t ∷ ts) = Kept z (t ∷ ts) × Throughout z ts

  -- THE PROMISE, of a making and calls that do what Makes and Does say, over memories that mean cells. Nothing is asked of a
  -- memory but that it is fit at the making: that it stays so is promised.
  module _ {M : Type 0} (cells : M → Cells K) (fit : M → Type 0) (Makes : M → State M → Type 0) (Does : State M → Call K → Outcome K F → State M → Type 0) where
    pub record Promise : Type 0 where
      pub made : (m : M) (z : State M) → fit m → Makes m z → fit z.memory × JustMade kd.filler (meant cells z)
      -- every list of calls, whatever is repeated or refused in it
      pub kept :
          (z : State M) (ts : List (Turn M K F)) → Run fit Makes Does z ts →
          fit (state z ts).memory × Throughout (meant cells z) (meant_turns cells ts)
      -- where N is below 160 or above 4,096 the making writes nothing, every call is refused with 1, and nothing is altered
      pub out_of_range_made : (m : M) (z : State M) → (InRange (length (cells m)) → ⊥) → Makes m z → cells z.memory ≡ cells m
      pub out_of_range :
          (x y : State M) (c : Call K) (a : Outcome K F) → (InRange (length (cells x.memory)) → ⊥) → Does x c a y →
          (a ≡ Err BadSize) × (meant cells y ≡ meant cells x)

  -- Every call can be made at every moment, so that there are runs of every list of calls. It is said of memories that are
  -- cells: which memory a store passes to is the store's own affair, but one with these cells there is.
  module _ (Makes : Cells K → State (Cells K) → Type 0) (Does : State (Cells K) → Call K → Outcome K F → State (Cells K) → Type 0) where
    pub record GoesOn : Type 0 where
      pub made : (cs : Cells K) → (z : State (Cells K)) × Makes cs z
      pub called :
          (z : State (Cells K)) (ts : List (Turn (Cells K) K F)) → Run FitCells Makes Does z ts → (c : Call K) →
          (a : Outcome K F) × (y : State (Cells K)) × Does (state z ts) c a y
