-- Which tree a grown one stands for, over cells that spell the nodes that it keeps.
use Rattle.std.specs.Prelude.{◌≡◌, ℕ, suc, ◌+◌, Bool, false, cond, List, [], ◌∷◌, ◌++◌, Some, None, Ok, Option, Result, ◌==◌, nat_eq}
use Rattle.store.specs.declared.node.Node.{Node}
use Rattle.store.specs.declared.node.Region.{Region}
use Rattle.store.specs.declared.fault.StoreFault.{StoreFault}
use Rattle.store.specs.Cells.{Cell, readable, cell_at, read_answer}
use Rattle.store.specs.Nodes.{region_of}
use Rattle.trees.specs.Trees.{Tree, leaf, node, count, weight as weight_of}
use Rattle.trees.specs.Rotations.{Label, kept as stays, new, balance}
use Rattle.trees.specs.Edits.{sprout}
use Rattle.trees.specs.Paths.{times, inside}
use Rattle.drafts.specs.declared.link.Numbered.{Numbered}
use Rattle.drafts.specs.declared.link.Lean.{Lean}
use Rattle.drafts.specs.Grown.{Grown, kept, built, Seen, Parts, Built, tree, weight, opened, without, rotated}
use Rattle.walks.specs.Walks.{Walked}
use Rattle.runs.specs.States.{NodeInTree}

-- how many nodes of a tree that an edit makes are the node n, kept
abbrev pub is_kept : ℕ → Label → Bool
is_kept n (stays m) = n == m
is_kept n new = false

abbrev pub keeps : {R : Type 0} → ℕ → Tree Label R → ℕ
keeps n t = inside (is_kept n) t

-- whether the top is the node n, kept
abbrev pub top_keeps : {R : Type 0} → ℕ → Tree Label R → ℕ
top_keeps n leaf = 0
top_keeps n (node o l x r) = cond (is_kept n o) 1 0

-- a node with two sides, neither empty
abbrev pub BothSides : {L R : Type 0} → Tree L R → Type 0
BothSides leaf = ⊥
BothSides (node o leaf x r) = ⊥
BothSides (node o (node p a y b) x leaf) = ⊥
BothSides (node o (node p a y b) x (node q c z d)) = Unit {0}

-- how many nodes the left edge of a tree has
abbrev pub edge_length : {L R : Type 0} → Tree L R → ℕ
edge_length leaf = 0
edge_length (node o l x r) = suc (edge_length l)

-- the lowest node of the left edge of a side with the top o
abbrev pub least_label : {R : Type 0} → Tree Label R → Label → Label
least_label leaf o = o
least_label (node p a y b) o = least_label a p

module _ {K : Type 0} where
  -- how often node n is among those that leave
  abbrev pub leaves : ℕ → List (Numbered K) → ℕ
  leaves n [] = 0
  leaves n (p ∷ ps) = times (nat_eq n) (p.number ∷ []) + leaves n ps

  -- nodes as they can be read
  abbrev pub AllRead : List (Cell K) → List (Numbered K) → Type 0
  AllRead cs [] = Unit {0}
  AllRead cs (p ∷ ps) = (cell_at cs p.number ≡ readable p.node) × AllRead cs ps

  -- a kept node is the top of the tree that the cells spell there, with true sizes; a new one has its true size
  abbrev pub Stands : List (Cell K) → Grown K → Tree Label (Region K) → Type 0
  Stands cs (kept n) leaf = n ≡ 0
  Stands cs (kept n) (node (stays m) l x r) =
      (v : Node K) × (n ≡ m) × NodeInTree cs [] m x (suc (count l + count r)) v × Stands cs (kept v.left) l × Stands cs (kept v.right) r
  Stands cs (kept n) (node new l x r) = ⊥
  Stands cs (built s y g h) leaf = ⊥
  Stands cs (built s y g h) (node (stays m) l x r) = ⊥
  Stands cs (built s y g h) (node new l x r) = (s ≡ suc (count l + count r)) × (y ≡ x) × Stands cs g l × Stands cs h r

  -- the top of a tree, taken apart
  abbrev pub OpensTo : List (Cell K) → Option (Parts K) → Tree Label (Region K) → Type 0
  OpensTo cs None leaf = Unit {0}
  OpensTo cs None (node o l x r) = ⊥
  OpensTo cs (Some p) leaf = ⊥
  OpensTo cs (Some p) (node o l x r) = (p.region ≡ x) × Stands cs p.left l × Stands cs p.right r

  -- A side that was seen as it is: it stands for a tree, weighs what that does and opens to its parts; and if it is taken apart, its
  -- node leaves if it was kept, as it was read.
  pub record Shows (cs : List (Cell K)) (s : Seen K) (t : Tree Label (Region K)) : Type 0 where
    pub stands : Stands cs (tree s) t
    pub weighs : weight s ≡ weight_of t
    pub opens : OpensTo cs (opened s) t
    pub leaving : List (Numbered K)
    pub taken : (gone : List (Numbered K)) → without gone s ≡ gone ++ leaving
    pub as_read : AllRead cs leaving
    pub numbers : (n : ℕ) → leaves n leaving ≡ top_keeps n t

  -- What was drafted went well and stands for a tree. What leaves by it, besides `gone`, is as it was read; and each node that leaves
  -- or is kept is counted: together they are the nodes `before`.
  pub record Lifted (cs : List (Cell K)) (before : ℕ → ℕ) (gone : List (Numbered K)) (r : Result (Built K) StoreFault) (t : Tree Label (Region K)) : Type 0 where
    pub made : Built K
    pub is : r ≡ Ok made
    pub stands : Stands cs (tree made.top) t
    pub more : List (Numbered K)
    pub left : made.gone ≡ gone ++ more
    pub as_read : AllRead cs more
    pub same : (n : ℕ) → leaves n made.gone + keeps n t ≡ before n

  -- a node o over two sides comes to the tree u: where neither side is named as too heavy it is as it was, else it is rotated
  abbrev pub Treated : List (Cell K) → (ℕ → ℕ) → List (Numbered K) → Label → Region K → (l r : Seen K) (tl tr u : Tree Label (Region K)) → Option Lean → Type 0
  Treated cs before gone o x l r tl tr u None = u ≡ node o tl x tr
  Treated cs before gone o x l r tl tr u (Some s) = Lifted cs before gone (rotated cs gone s x l r) u

  -- what the walk puts in place of the lowest node of an edge, of its region and its right side
  abbrev pub end_of : Option (Region K) → Region K → Tree Label (Region K) → Tree Label (Region K)
  end_of None y u = u
  end_of (Some z) y u = balance new (sprout z) y u

  -- A walk went well, and what it built stands for a tree; what leaves by it is counted as above. Its least node is the one labelled o,
  -- and can be read: it has the region x.
  pub record WalkLifted (cs : List (Cell K)) (before : ℕ → ℕ) (gone : List (Numbered K)) (r : Result (Walked K) StoreFault) (o : Label) (x : Region K) (t : Tree Label (Region K)) : Type 0 where
    pub made : Walked K
    pub is : r ≡ Ok made
    pub stands : Stands cs made.side t
    pub more : List (Numbered K)
    pub left : made.gone ≡ gone ++ more
    pub as_read : AllRead cs more
    pub same : (n : ℕ) → leaves n made.gone + keeps n t ≡ before n
    pub numbered : stays made.least ≡ o
    pub last : Node K
    pub reads : read_answer cs made.least ≡ Ok last
    pub holds : region_of last ≡ x
