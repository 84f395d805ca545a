-- Put, drop and split: a search ends at a link, and what stands there gives way to what is drafted for it.
use Rattle.std.specs.Prelude.{ℕ, ◌-◌, Bool, true, false, cond, List, [], ◌∷◌, length, Some, None, Ok, Err, Option, Result, nat_le, nat_lt}
use Rattle.std.specs.declared.cmp.Ordering.{Ordering}
use Rattle.std.specs.declared.cmp.Ordering.TheVariants.{Less, Equal, Greater}
use Rattle.keys.specs.Orders.{compared}
use Rattle.store.specs.declared.node.Node.{Node}
use Rattle.store.specs.declared.node.Region.{Region}
use Rattle.store.specs.declared.fault.StoreFault.{StoreFault}
use Rattle.store.specs.Cells.{Cell, read_answer}
use Rattle.store.specs.Nodes.{region, link_number}
use Rattle.drafts.specs.declared.link.Lean.{Lean}
use Rattle.drafts.specs.declared.link.Lean.TheVariants.{Right}
use Rattle.drafts.specs.declared.link.Numbered.{Numbered}
use Rattle.drafts.specs.Grown.{kept, bind, tree}
use Rattle.search.specs.declared.search.Sought.{Sought}
use Rattle.search.specs.declared.search.Sought.TheVariants.{Holder, Overlap}
use Rattle.search.specs.Paths.{lowest}
use Rattle.search.specs.Searches.{Way, side_for, descended}
use Rattle.search.specs.Frees.{free_count}
use Rattle.commits.specs.declared.writes.Joint.{Joint}
use Rattle.commits.specs.Commits.{placed, root_after, committed}
use Rattle.walks.specs.Walks.{Graft, graft_of, numbered, sprout, merged, parted}
use Rattle.edits.specs.declared.fault.Doing.TheVariants.{Search, Copy}
use Rattle.edits.specs.declared.fault.Refusal.{Refusal}
use Rattle.edits.specs.declared.fault.Refusal.TheVariants.{Busy, Overlaps, Missing, SameAsLow, Full, Crowded}
use Rattle.edits.specs.Refusals.{refused_in}
use Rattle.edits.specs.Calls.{Change}

-- WHAT IS ASKED, each in its turn

-- an edit begins at rest: no node is pending
abbrev pub rest_at : List ℕ → Result (Unit {0}) Refusal
rest_at [] = Ok tt
rest_at (n ∷ ns) = Err Busy

-- the search for a range ends at no node
abbrev pub vacant : Option ℕ → Result (Unit {0}) Refusal
vacant None = Ok tt
vacant (Some n) = Err Overlaps

-- the search for a key ends at a node
abbrev pub holder : Option ℕ → Result ℕ Refusal
holder None = Err Missing
holder (Some n) = Ok n

abbrev pub tells_same_order : Ordering → Bool
tells_same_order Less = false
tells_same_order Equal = true
tells_same_order Greater = false

abbrev pub tells_same : {F : Type 0} → Result Ordering F → Bool
tells_same (Ok o) = tells_same_order o
tells_same (Err f) = false

-- whether two keys are the same: an ill-formed key is the same as none
unfoldable pub same_by : {K F : Type 0} → (K → Option F) → (K → K → Ordering) → K → K → Bool
same_by fault order a b = tells_same (compared (fault a) (fault b) (order a b))

-- a split's key differs from the low key
abbrev pub apart : Bool → Result (Unit {0}) Refusal
apart true = Err SameAsLow
apart false = Ok tt

-- how many free nodes a drop asks for, by the sides of its node: none where one is empty
abbrev pub needs_by : Option ℕ → Option ℕ → ℕ
needs_by None r = 0
needs_by (Some a) None = 0
needs_by (Some a) (Some b) = 96

-- The side by which a search left a node of its way. It went on from each of them, so there is one; the right side stands for none.
abbrev pub way_side : Option Lean → Lean
way_side (Some s) = s
way_side None = Right

-- a node, and the way to it
pub record Held (K : Type 0) : Type 0 where
  pub way : List ℕ
  pub node : Numbered K

module _ {K : Type 0} where
  -- how many nodes the tree at a link has, as its top says
  abbrev pub size_by : List (Cell K) → Option ℕ → Result ℕ StoreFault
  size_by cs None = Ok 0
  size_by cs (Some n) = bind (read_answer cs n) (λ v. Ok v.size)

  -- The pool has N - 32 nodes, and 96 of them are kept for copies: there is room for a region more while fewer than N - 128 stand.
  unfoldable pub room_at : List (Cell K) → ℕ → Result (Unit {0}) Refusal
  room_at cs root =
      bind (refused_in Copy (size_by cs (link_number root))) (λ size. cond (nat_le (length cs - 128) size) (Err Full) (Ok tt))

  -- as many nodes of the pool are free as an edit may take
  unfoldable pub free_for : List (Cell K) → ℕ → Result (Unit {0}) Refusal
  free_for cs want = cond (nat_lt (free_count cs) want) (Err Crowded) (Ok tt)

  -- THE LINK at which a search ended: the root link, or the one by which it left the lowest node of its way
  abbrev pub joint_from : (K → K → Bool) → Sought K → List (Cell K) → Option ℕ → Result (Option (Joint K)) StoreFault
  joint_from less x cs None = Ok None
  joint_from less x cs (Some p) = bind (read_answer cs p) (λ v. Ok (Some (record { above = numbered p v; side = way_side (side_for less x v) })))

  unfoldable pub joint_for : (K → K → Bool) → Sought K → List (Cell K) → List ℕ → Result (Option (Joint K)) StoreFault
  joint_for less x cs way = joint_from less x cs (lowest way)

  -- what was drafted takes the place of that link; the nodes of the way are then pending
  abbrev pub graft_change : List ℕ → ℕ → ℕ → List ℕ → Graft K → Option (Joint K) → Change K
  graft_change way root sessions ns g j =
      let p = placed g.side ns in record { path = way; root = root_after j p.top root; writes = committed j p sessions g.gone }

  unfoldable pub grafted : (K → K → Bool) → Sought K → List (Cell K) → List ℕ → ℕ → ℕ → List ℕ → Graft K → Result (Change K) Refusal
  grafted less x cs way root sessions ns g =
      bind (refused_in Copy (joint_for less x cs way)) (λ j. Ok (graft_change way root sessions ns g j))

  -- the way down, from rest
  unfoldable pub begun : (K → K → Bool) → Sought K → List (Cell K) → List ℕ → ℕ → Result Way Refusal
  begun less x cs path root = bind (rest_at path) (λ _. refused_in Search (descended less x cs 27 root))

  -- PUT: a new node where the search for the range ends
  unfoldable pub put_told : (K → K → Bool) → List (Cell K) → List ℕ → ℕ → ℕ → Region K → List ℕ → Result (Change K) Refusal
  put_told less cs path root sessions x ns =
      bind (begun less (Overlap x.low x.high) cs path root) (λ w.
      bind (vacant w.end) (λ _.
      bind (room_at cs root) (λ _.
      bind (free_for cs 1) (λ _.
      grafted less (Overlap x.low x.high) cs w.passed root sessions ns (record { side = tree (sprout x); gone = [] })))))

  -- the node that holds a key
  unfoldable pub held_by : (K → K → Bool) → K → List (Cell K) → List ℕ → ℕ → Result (Held K) Refusal
  held_by less k cs path root =
      bind (begun less (Holder k) cs path root) (λ w.
      bind (holder w.end) (λ n.
      bind (refused_in Copy (read_answer cs n)) (λ v. Ok (record { way = w.passed; node = numbered n v }))))

  -- DROP: with an empty side the other one takes the node's place
  abbrev pub drop_needs : Node K → ℕ
  drop_needs v = needs_by (link_number v.left) (link_number v.right)

  abbrev pub drop_by : List (Cell K) → Numbered K → Option ℕ → Option ℕ → Result (Graft K) StoreFault
  drop_by cs p None r = Ok (record { side = kept p.node.right; gone = p ∷ [] })
  drop_by cs p (Some a) None = Ok (record { side = kept p.node.left; gone = p ∷ [] })
  drop_by cs p (Some a) (Some b) = bind (merged cs p) (λ m. Ok (graft_of m))

  unfoldable pub drop_graft : List (Cell K) → Numbered K → Result (Graft K) StoreFault
  drop_graft cs p = drop_by cs p (link_number p.node.left) (link_number p.node.right)

  unfoldable pub drop_told : (K → K → Bool) → List (Cell K) → List ℕ → ℕ → ℕ → K → List ℕ → Result (Change K) Refusal
  drop_told less cs path root sessions k ns =
      bind (held_by less k cs path root) (λ h.
      bind (free_for cs (drop_needs h.node.node)) (λ _.
      bind (refused_in Copy (drop_graft cs h.node)) (λ g.
      grafted less (Holder k) cs h.way root sessions ns g)))

  -- SPLIT at k: [low, k) and [k, high) with two given numbers of rows
  abbrev pub lower_of : K → ℕ → Node K → Region K
  lower_of k rows v = region v.low k rows

  abbrev pub upper_of : K → ℕ → Node K → Region K
  upper_of k rows v = region k v.high rows

  unfoldable pub split_told : (K → K → Bool) → (K → K → Bool) → List (Cell K) → List ℕ → ℕ → ℕ → K → ℕ → ℕ → List ℕ → Result (Change K) Refusal
  split_told less same cs path root sessions k lower upper ns =
      bind (held_by less k cs path root) (λ h.
      bind (apart (same h.node.node.low k)) (λ _.
      bind (room_at cs root) (λ _.
      bind (free_for cs 96) (λ _.
      bind (refused_in Copy (parted cs h.node (lower_of k lower h.node.node) (upper_of k upper h.node.node))) (λ b.
      grafted less (Holder k) cs h.way root sessions ns (graft_of b))))))
