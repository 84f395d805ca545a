-- The way down in the memory, as the way down in the tree that it spells.
use Rattle.std.specs.Prelude.{◌≡◌, ℕ, ◌≤◌, Bool, true, false, List, [], ◌∷◌, reverse, Some, None, Ok, Option}
use Rattle.store.specs.declared.node.Node.{Node}
use Rattle.store.specs.declared.node.Region.{Region}
use Rattle.store.specs.Cells.{Cell, read_answer}
use Rattle.trees.specs.Regions.{Region as WellMade, RegionSet, overlaps}
use Rattle.trees.specs.Trees.{Side, left, right, Tree, leaf, node, inorder, height, seek}
use Rattle.trees.specs.Edits.{Frame, frame, labels, Place, descend}
use Rattle.drafts.specs.declared.link.Lean.{Lean}
use Rattle.drafts.specs.declared.link.Lean.TheVariants.{Right, Left}
use Rattle.search.specs.declared.search.Sought.{Sought}
use Rattle.search.specs.declared.search.Sought.TheVariants.{Holder, Overlap}
use Rattle.search.specs.Searches.{Way, less_by, side_for, descended}
use Rattle.runs.specs.Calls.{Kind, regions}
use Rattle.runs.specs.States.{Spells}

abbrev pub lean_of : Side → Lean
lean_of left = Left
lean_of right = Right

-- the node at the top, and the link to it
abbrev pub top_number : {R : Type 0} → Tree ℕ R → Option ℕ
top_number leaf = None
top_number (node n l x r) = Some n

abbrev pub top_link : {R : Type 0} → Tree ℕ R → ℕ
top_link leaf = 0
top_link (node n l x r) = n

module _ {K : Type 0} where
  -- each node of a path can be read, and the search left it by the side on which the path goes on
  abbrev pub LeftBy : (K → K → Bool) → Sought K → List (Cell K) → List (Frame ℕ (Region K)) → Type 0
  LeftBy less x cs [] = Unit {0}
  LeftBy less x cs (frame s n y u ∷ fs) =
      ((v : Node K) × (read_answer cs n ≡ Ok v) × (side_for less x v ≡ Some (lean_of s))) × LeftBy less x cs fs

  -- A search from a link, through at most 27 nodes, goes well, and its way is that to a place of the tree: it passes the nodes above,
  -- the highest first, and ends at the top of what is under it, or at none where that is empty.
  pub record GoesTo (less : K → K → Bool) (x : Sought K) (cs : List (Cell K)) (pending : List ℕ) (root : ℕ) (p : Place ℕ (Region K)) : Type 0 where
    pub way : Way
    pub is : descended less x cs 27 root ≡ Ok way
    pub passed : way.passed ≡ reverse (labels p.above)
    pub ends : way.end ≡ top_number p.under
    pub left_by : LeftBy less x cs p.above
    pub spelled : Spells cs pending (top_link p.under) p.under

  -- a search that ends at a node
  pub record Meets (less : K → K → Bool) (x : Sought K) (cs : List (Cell K)) (root : ℕ) : Type 0 where
    pub way : Way
    pub is : descended less x cs 27 root ≡ Ok way
    pub met : ℕ
    pub ends : way.end ≡ Some met

module _ {K F : Type 0} (kd : Kind K F) where
  -- the search for the region that holds a key, in a tree with at most so many nodes on any path
  abbrev pub HolderDescends : ℕ → Type 0
  HolderDescends high =
      (cs : List (Cell K)) (pending : List ℕ) (root : ℕ) (t : Tree ℕ (Region K)) (k : K) → Spells cs pending root t →
      RegionSet (regions kd) (inorder t) → height t ≤ high → kd.fault k ≡ None →
      GoesTo (less_by kd.fault kd.order) (Holder k) cs pending root (descend (seek (regions kd) k) [] t)

  -- The search for what a region overlaps: it ends at a node where the region overlaps one of the tree; else it goes down as the
  -- search for its low key, to an empty link.
  abbrev pub ByOverlap : List (Cell K) → List ℕ → ℕ → Tree ℕ (Region K) → Region K → Bool → Type 0
  ByOverlap cs pending root t x true = Meets (less_by kd.fault kd.order) (Overlap x.low x.high) cs root
  ByOverlap cs pending root t x false =
      ((descend (seek (regions kd) x.low) [] t).under ≡ leaf) ×
      GoesTo (less_by kd.fault kd.order) (Overlap x.low x.high) cs pending root (descend (seek (regions kd) x.low) [] t)

  abbrev pub OverlapDescends : ℕ → Type 0
  OverlapDescends high =
      (cs : List (Cell K)) (pending : List ℕ) (root : ℕ) (t : Tree ℕ (Region K)) (x : Region K) → Spells cs pending root t →
      RegionSet (regions kd) (inorder t) → height t ≤ high → WellMade (regions kd) x →
      ByOverlap cs pending root t x (overlaps (regions kd) x (inorder t))
