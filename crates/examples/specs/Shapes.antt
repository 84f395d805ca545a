-- Small trees for the worked examples: over natural numbers as keys, k stands for the region [k, k + 1), and every edit is finished.
use Rattle.std.specs.Prelude.{ℕ, suc, List, [], ◌∷◌}
use Rattle.trees.specs.Units.{units}
use Rattle.trees.specs.Trees.{Tree, leaf, node, Even}
use Rattle.trees.specs.Rotations.{Label, kept, new}
use Rattle.trees.specs.Edits.{Frame, place, Edit, Put, advanced, edited}

-- the numbers of nodes are of no account here: each new node gets the number 0
abbrev pub numbered : Tree Label ℕ → Tree ℕ ℕ
numbered leaf = leaf
numbered (node (kept n) l x r) = node n (numbered l) x (numbered r)
numbered (node new l x r) = node 0 (numbered l) x (numbered r)

-- the pending nodes treated, from the lowest up
abbrev pub finished : List (Frame ℕ ℕ) → Tree ℕ ℕ → Tree ℕ ℕ
finished [] t = t
finished (f ∷ fs) t = finished fs (numbered (advanced (f ∷ fs) t).grown)

-- the tree after an edit and all its advances
abbrev pub after : Edit ℕ ℕ → Tree ℕ ℕ → Tree ℕ ℕ
after e t = let m = edited units e (place [] t) in finished m.above (numbered m.grown)

abbrev pub puts : List ℕ → Tree ℕ ℕ → Tree ℕ ℕ
puts [] t = t
puts (k ∷ ks) t = puts ks (after (Put k) t)

-- a tree without its node numbers: r(a, b) is `top r a b`
pub data Shape : Type 0 where
  none : Shape
  top : ℕ → Shape → Shape → Shape

abbrev pub only : ℕ → Shape
only k = top k none none

abbrev pub shape : Tree ℕ ℕ → Shape
shape leaf = none
shape (node n l x r) = top x (shape l) (shape r)

abbrev pub one_to_six : Tree ℕ ℕ
one_to_six = puts (1 ∷ 2 ∷ 3 ∷ 4 ∷ 5 ∷ 6 ∷ []) leaf

-- two sides of these sizes are balanced: each weighs one more
abbrev pub SizesBalanced : ℕ → ℕ → Type 0
SizesBalanced a b = Even (suc a) (suc b)
