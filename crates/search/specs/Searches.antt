-- The search in the tree, as a function of the memory.
use Rattle.std.specs.Prelude.{◌≡◌, ℕ, zero, suc, Bool, false, cond, List, [], ◌∷◌, ◌++◌, Some, None, Ok, Err, Option, Result}
use Rattle.store.specs.Nodes.{link_number}
use Rattle.std.specs.declared.cmp.Ordering.{Ordering}
use Rattle.std.specs.Ordering.{is_lt}
use Rattle.keys.specs.Orders.{compared}
use Rattle.store.specs.declared.node.Node.{Node}
use Rattle.store.specs.declared.fault.StoreFault.{StoreFault}
use Rattle.store.specs.Cells.{Cell, read_answer}
use Rattle.drafts.specs.declared.link.Lean.{Lean}
use Rattle.drafts.specs.declared.link.Lean.TheVariants.{Right, Left}
use Rattle.drafts.specs.Drafts.{on_side}
use Rattle.drafts.specs.Grown.{bind}
use Rattle.search.specs.declared.search.Sought.{Sought}
use Rattle.search.specs.declared.search.Sought.TheVariants.{Holder, Overlap}

abbrev pub tells_below : {F : Type 0} → Result Ordering F → Bool
tells_below (Ok o) = is_lt o
tells_below (Err f) = false

-- whether a key is below another: an ill-formed key is below none, and none is below it
unfoldable pub less_by : {K F : Type 0} → (K → Option F) → (K → K → Ordering) → K → K → Bool
less_by fault order a b = tells_below (compared (fault a) (fault b) (order a b))

-- the way that a search takes: the nodes that it passes, and the node at which it ends, if any
pub record Way : Type 0 where
  pub passed : List ℕ
  pub end : Option ℕ

abbrev pub nowhere : Way
nowhere = record { passed = []; end = None }

module _ {K : Type 0} where
  -- a key lies left of a node if it is below its low key, and right of it if it is not below its high key;
  -- a range lies left if the low key is not below the range's end, and right if the range's start is not below the high key
  unfoldable pub side_for : (K → K → Bool) → Sought K → Node K → Option Lean
  side_for less (Holder k) v = cond (less k v.low) (Some Left) (cond (less k v.high) None (Some Right))
  side_for less (Overlap a b) v = cond (less v.low b) (cond (less a v.high) None (Some Right)) (Some Left)

  abbrev pub link_at : Lean → Node K → ℕ
  link_at s v = on_side s v.left v.right

  abbrev pub at_node : (ℕ → Result Way StoreFault) → ℕ → Node K → Option Lean → Result Way StoreFault
  at_node on n v None = Ok (record { passed = []; end = Some n })
  at_node on n v (Some s) = bind (on (link_at s v)) (λ w. Ok (record { passed = n ∷ w.passed; end = w.end }))

  abbrev pub at_link : (K → K → Bool) → Sought K → List (Cell K) → (ℕ → Result Way StoreFault) → Option ℕ → Result Way StoreFault
  at_link less x cs on None = Ok nowhere
  at_link less x cs on (Some n) = bind (read_answer cs n) (λ v. at_node on n v (side_for less x v))

  -- the way from a link, through at most k nodes
  unfoldable pub descended : (K → K → Bool) → Sought K → List (Cell K) → ℕ → ℕ → Result Way StoreFault
  descended less x cs zero l = Ok nowhere
  descended less x cs (suc k) l = at_link less x cs (descended less x cs k) (link_number l)

-- the call that took a way: its answer, and the path after it
abbrev pub Reaches : List ℕ → List ℕ → Result (Option ℕ) StoreFault → Result Way StoreFault → Type 0
Reaches before after r (Ok w) = (r ≡ Ok w.end) × (after ≡ before ++ w.passed)
Reaches before after r (Err e) = r ≡ Err e
