-- What is proved of trees, as statements for contracts. R is what a region is, g its keys with their order.
use Rattle.std.specs.Prelude.{◌≡◌, ℕ, suc, ◌+◌, ◌≤◌, Bool, true, false, List, [], ◌∷◌, ◌++◌, length}
use Rattle.trees.specs.Regions.{Ranges, Region, RegionSet, gives, overlaps}
use Rattle.trees.specs.Trees.{Side, Turn, Tree, leaf, node, inorder, count, weight, height, Even, Balanced, seek, path, visited, found, root}
use Rattle.trees.specs.Rotations.{Label, kept, new, balance, Nearly, Near}
use Rattle.trees.specs.Edits.{Frame, frame, labels, Place, place, plug, whole, descend, settled, climb, Edit, Put, Drop, Split, Advance, edited, set_after, Mending}
use Rattle.trees.specs.Paths.{inside}
use Rattle.trees.specs.Steps.{Accepted, given_after, GivesOne, InTurn, Stands}

-- THE REGION SET

module _ {K R : Type 0} (g : Ranges K R) where
  -- it gives at most one region for a key
  abbrev pub OneGiven : Type 0
  OneGiven = (xs : List R) (k : K) → RegionSet g xs → g.Formed k → GivesOne g xs k

  -- an accepted put, drop or split leaves a region set
  abbrev pub SetsKept : Type 0
  SetsKept = (e : Edit K R) (xs : List R) → RegionSet g xs → Accepted g e xs → RegionSet g (set_after g e xs)

  -- what it gives after, for every key
  abbrev pub GivenAfter : Type 0
  GivenAfter =
      (e : Edit K R) (xs : List R) (k : K) → RegionSet g xs → Accepted g e xs → g.Formed k →
      gives g (set_after g e xs) k ≡ given_after g e k (gives g xs k)

  -- a search in a tree that is in order finds what the set gives
  abbrev pub FoundGiven : Type 0
  FoundGiven = (t : Tree ℕ R) (k : K) → RegionSet g (inorder t) → g.Formed k → found (seek g k) t ≡ gives g (inorder t) k

  -- a region overlaps one of the set exactly if it overlaps one on the path of its low key
  abbrev pub OverlapOnPath : Type 0
  OverlapOnPath =
      (t : Tree ℕ R) (x : R) → RegionSet g (inorder t) → Region g x → overlaps g x (inorder t) ≡ overlaps g x (visited (seek g (g.low x)) t)

  -- the empty tree stands
  abbrev pub EmptyStands : Type 0
  EmptyStands = Stands g (place [] leaf)

-- HOW MANY NODES AN EDIT TAKES

abbrev pub is_new : Label → Bool
is_new (kept n) = false
is_new new = true

abbrev pub most_new : {K R : Type 0} → Edit K R → ℕ
most_new (Put x) = 1
most_new (Drop k) = 96
most_new (Split b lower upper) = 96
most_new Advance = 3

-- in a tree of height at most 27 an edit makes at most so many new nodes
abbrev pub FewNew : {K R : Type 0} → Ranges K R → Type 0
FewNew {K} {R} g =
    (e : Edit K R) (p : Place ℕ R) → InTurn g e p → height (whole p) ≤ 27 → inside is_new (edited g e p).grown ≤ most_new e

-- THE WAY DOWN

-- a list laid on another, the first at the bottom
abbrev pub onto : {A : Type 0} → List A → List A → List A
onto [] ys = ys
onto (x ∷ xs) ys = onto xs (x ∷ ys)

-- the label at the top
abbrev pub top_label : {L R : Type 0} → Tree L R → List L
top_label leaf = []
top_label (node o l x r) = o ∷ []

-- The nodes above the link at which a search ends are those that it visits, but for what stands under the link; over the tree under
-- that link they are the whole tree, and what stands under it is what the search finds.
pub record GoesDown {R : Type 0} (turn : R → Turn) (t : Tree ℕ R) : Type 0 where
  pub same_tree : whole (descend turn [] t) ≡ t
  pub same_path : onto (labels (descend turn [] t).above) (top_label (descend turn [] t).under) ≡ path turn t
  pub same_end : root (descend turn [] t).under ≡ found turn t

abbrev pub Descends : Type 0 → Type 0
Descends R = (turn : R → Turn) (t : Tree ℕ R) → GoesDown turn t

-- ROTATIONS AND BALANCE

module _ (R : Type 0) where
  -- balance keeps the regions in order, and so their number
  abbrev pub OrderKept : Type 0
  OrderKept =
      (o : Label) (l : Tree Label R) (x : R) (r : Tree Label R) →
      (inorder (balance o l x r) ≡ inorder l ++ (x ∷ inorder r)) × (count (balance o l x r) ≡ suc (count l + count r))

  -- Both sides are balanced, and neither weighs more than 3 times the other and so much: what balance makes is balanced.
  abbrev pub Balances : ℕ → Type 0
  Balances slack =
      (o : Label) (l : Tree Label R) (x : R) (r : Tree Label R) →
      Nearly slack (weight l) (weight r) → Balanced l → Balanced r → Balanced (balance o l x r)

  -- The same of a node that was balanced before so many regions came or went on its side s.
  abbrev pub BalancesAfter : ℕ → Type 0
  BalancesAfter many =
      (s : Side) (w : ℕ) (o : Label) (x : R) (u t : Tree Label R) → Even w (weight u) → Near many w (weight t) → Balanced u → Balanced t →
      Balanced (settled (frame s o x u) t)

  -- The pending nodes treated from the lowest up: the same regions in order, balanced.
  abbrev pub Climbs : Type 0
  Climbs =
      (fs : List (Frame Label R)) (t : Tree Label R) → Mending (place fs t) → (inorder (climb fs t) ≡ inorder (plug fs t)) × Balanced (climb fs t)

  -- a balanced tree of at most so many nodes has at most so many on any path
  abbrev pub Low : ℕ → ℕ → Type 0
  Low most high = (t : Tree ℕ R) → Balanced t → count t ≤ most → (height t ≤ high) × ((turn : R → Turn) → length (path turn t) ≤ high)
