-- The edits as functions on trees of numbered nodes: each says which nodes it keeps, and which are new.
use Rattle.std.specs.Prelude.{ℕ, ◌+◌, List, [], ◌∷◌}
use Rattle.trees.specs.Regions.{Ranges, set_put, set_drop, set_split}
use Rattle.trees.specs.Trees.{Side, left, right, Turn, at_turn, Tree, leaf, node, pick, beside, weight, Even, Balanced, seek}
use Rattle.trees.specs.Rotations.{Label, kept, new, balance, Near}

-- PLACES

-- a node on the way down: the side on which the way goes on, its label, its region, and what stands on the other side
pub data Frame (L R : Type 0) : Type 0 where
  frame : Side → L → R → Tree L R → Frame L R

-- a link of a tree: the nodes above it, the lowest first, and what stands under it
pub record Place (L R : Type 0) : Type 0 where
  pub above : List (Frame L R)
  pub under : Tree L R

module _ {L R : Type 0} where
  abbrev pub labels : List (Frame L R) → List L
  labels [] = []
  labels (frame s o x u ∷ fs) = o ∷ labels fs

  abbrev pub place : List (Frame L R) → Tree L R → Place L R
  place fs t = record { above = fs; under = t }

  -- the tree with t under a link
  abbrev pub plug : List (Frame L R) → Tree L R → Tree L R
  plug [] t = t
  plug (frame s o x u ∷ fs) t = plug fs (beside s o t x u)

  abbrev pub whole : Place L R → Tree L R
  whole p = plug p.above p.under

  -- the link at which a search ends: what it seeks stands under it, or nothing does
  abbrev pub descend : (R → Turn) → List (Frame L R) → Tree L R → Place L R
  descend turn fs leaf = place fs leaf
  descend turn fs (node o l x r) =
      at_turn (turn x) (descend turn (frame left o x r ∷ fs) l) (place fs (node o l x r)) (descend turn (frame right o x l ∷ fs) r)

-- the tree that stands, each node kept
abbrev pub standing : {R : Type 0} → Tree ℕ R → Tree Label R
standing leaf = leaf
standing (node n l x r) = node (kept n) (standing l) x (standing r)

-- the same of a path
abbrev pub standing_path : {R : Type 0} → List (Frame ℕ R) → List (Frame Label R)
standing_path [] = []
standing_path (frame s n x u ∷ fs) = frame s (kept n) x (standing u) ∷ standing_path fs

-- WHAT TAKES THE PLACE of the tree under a link

module _ {R : Type 0} where
  -- the node of a frame over t, balanced
  abbrev pub settled : Frame Label R → Tree Label R → Tree Label R
  settled (frame s o x u) t = balance o (pick s t u) x (pick s u t)

  -- every node of a path over t, each balanced, from the lowest up
  abbrev pub climb : List (Frame Label R) → Tree Label R → Tree Label R
  climb [] t = t
  climb (f ∷ fs) t = climb fs (settled f t)

  abbrev pub sprout : R → Tree Label R
  sprout x = node new leaf x leaf

  -- The least region of a side with the top x is at the end of its left edge.
  abbrev pub least : Tree Label R → R → R
  least leaf x = x
  least (node o a y b) x = least a y

  -- The walk that drop and split share: the left edge of a side with the top x is made of new nodes, each balanced, from the lowest
  -- up. In place of the lowest stands what `end` makes of its region and its right side.
  abbrev pub rebuilt : (R → Tree Label R → Tree Label R) → Tree Label R → R → Tree Label R → Tree Label R
  rebuilt end leaf x r = end x r
  rebuilt end (node o a y b) x r = balance new (rebuilt end a y b) x r

  -- drop: with an empty side the other one stays as it is; else the least region of the right side is the new top,
  -- over the left side and the right side without it
  abbrev pub joined : Tree Label R → Tree Label R → Tree Label R
  joined leaf r = r
  joined (node o a x b) leaf = node o a x b
  joined (node o a x b) (node p c z d) = balance new (node o a x b) (least c z) (rebuilt (λ y u. u) c z d)

  abbrev pub dropped : Tree Label R → Tree Label R
  dropped leaf = leaf
  dropped (node o l x r) = joined l r

  -- a side with z added as its least
  abbrev pub with_least : R → Tree Label R → Tree Label R
  with_least z leaf = sprout z
  with_least z (node o l x r) = rebuilt (λ y u. balance new (sprout z) y u) l x r

  -- split: the lower part is the new top, over the left side and the right side with the upper part added as its least
  abbrev pub parted : (R → R) → (R → R) → Tree Label R → Tree Label R
  parted lower upper leaf = leaf
  parted lower upper (node o l x r) = balance new l (lower x) (with_least (upper x) r)

-- THE EDITS

-- put a region; drop the region that holds a key; split it there, into the parts that are given; treat the lowest pending node
pub data Edit (K R : Type 0) : Type 0 where
  Put : R → Edit K R
  Drop : K → Edit K R
  Split : K → (R → R) → (R → R) → Edit K R
  Advance : Edit K R

-- what an edit makes: the nodes above the one link that it changes, which stay as they are and are pending then, the lowest first,
-- and the tree that stands under that link from then on
pub record Made (R : Type 0) : Type 0 where
  pub above : List (Frame ℕ R)
  pub grown : Tree Label R

abbrev pub made_at : {R : Type 0} → Place ℕ R → (Tree Label R → Tree Label R) → Made R
made_at p f = record { above = p.above; grown = f (standing p.under) }

-- the lowest pending node, balanced
abbrev pub advanced : {R : Type 0} → List (Frame ℕ R) → Tree ℕ R → Made R
advanced [] t = record { above = []; grown = standing t }
advanced (frame s n x u ∷ fs) t = record { above = fs; grown = settled (frame s (kept n) x (standing u)) (standing t) }

module _ {K R : Type 0} (g : Ranges K R) where
  -- an edit of the tree under pending nodes; put, drop and split begin where none are
  abbrev pub edited : Edit K R → Place ℕ R → Made R
  edited (Put x) p = made_at (descend (seek g (g.low x)) [] p.under) (λ t. sprout x)
  edited (Drop k) p = made_at (descend (seek g k) [] p.under) dropped
  edited (Split b lower upper) p = made_at (descend (seek g b) [] p.under) (parted lower upper)
  edited Advance p = advanced p.above p.under

  -- what an edit makes of the region set
  abbrev pub set_after : Edit K R → List R → List R
  set_after (Put x) xs = set_put g x xs
  set_after (Drop k) xs = set_drop g k xs
  set_after (Split b lower upper) xs = set_split g b lower upper xs
  set_after Advance xs = xs

-- BALANCE UNDER AN EDIT

-- the nodes of a path were balanced when what is under the lowest weighed w
abbrev pub WereBalanced : {L R : Type 0} → ℕ → List (Frame L R) → Type 0
WereBalanced w [] = Unit {0}
WereBalanced w (frame s o x u ∷ fs) = Even w (weight u) × Balanced u × WereBalanced (w + weight u) fs

-- all is balanced but for the pending nodes, and those were before one region came or went below them
pub record Mending {L R : Type 0} (p : Place L R) : Type 0 where
  pub weighed : ℕ
  pub changed : Near 1 weighed (weight p.under)
  pub below : Balanced p.under
  pub pending : WereBalanced weighed p.above
