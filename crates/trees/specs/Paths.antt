-- Node numbers on the path of a search and in a tree.
use Rattle.std.specs.Prelude.{◌≡◌, ℕ, ◌+◌, ◌≤◌, Bool, false, cond, ◌⊎◌, List, [], ◌∷◌, ◌==◌, nat_eq}
use Rattle.trees.specs.Trees.{Turn, Tree, leaf, node, path}
use Rattle.trees.specs.Rotations.{Label, kept, new}

-- how many labels of a list, and of a tree, are such
abbrev pub times : {L : Type 0} → (L → Bool) → List L → ℕ
times such [] = 0
times such (o ∷ os) = cond (such o) 1 0 + times such os

abbrev pub inside : {L R : Type 0} → (L → Bool) → Tree L R → ℕ
inside such leaf = 0
inside such (node o l x r) = cond (such o) 1 0 + (inside such l + inside such r)

-- node q is on the path; it is in the tree; no number is in the tree twice
abbrev pub On : ℕ → List ℕ → Type 0
On q ns = 1 ≤ times (nat_eq q) ns

abbrev pub In : {R : Type 0} → ℕ → Tree ℕ R → Type 0
In q t = 1 ≤ inside (nat_eq q) t

abbrev pub Distinct : {R : Type 0} → Tree ℕ R → Type 0
Distinct t = (q : ℕ) → inside (nat_eq q) t ≤ 1

-- what follows the first q of a list
abbrev pub beyond : ℕ → List ℕ → List ℕ
beyond q [] = []
beyond q (n ∷ ns) = cond (q == n) ns (beyond q ns)

-- node q of the tree holds x
abbrev pub Has : {L R : Type 0} → L → R → Tree L R → Type 0
Has q x leaf = ⊥
Has q x (node o l y r) = ((o ≡ q) × (y ≡ x)) ⊎ (Has q x l ⊎ Has q x r)

module _ {R : Type 0} where
  -- FROM A TREE t TO A TREE u

  -- a node on the search's path that stays in the tree stays on the path
  abbrev pub KeepsPath : (R → Turn) → Tree ℕ R → Tree ℕ R → Type 0
  KeepsPath turn t u = (q : ℕ) → On q (path turn t) → In q u → On q (path turn u)

  -- two nodes on the search's path that stay in the tree keep their order
  abbrev pub KeepsOrder : (R → Turn) → Tree ℕ R → Tree ℕ R → Type 0
  KeepsOrder turn t u = (q n : ℕ) → On n (beyond q (path turn t)) → In q u → In n u → On n (beyond q (path turn u))

  -- a node that stays in the tree holds what it held
  abbrev pub KeepsRegions : Tree ℕ R → Tree ℕ R → Type 0
  KeepsRegions t u = (q : ℕ) (x : R) → In q t → Has q x u → Has q x t

-- NUMBERS FOR NEW NODES: a tree of numbered nodes is the one that was made, kept nodes at their number, and new ones at a free one

abbrev pub Numbered : (ℕ → Type 0) → Label → ℕ → Type 0
Numbered Free (kept m) n = n ≡ m
Numbered Free new n = Free n

abbrev pub MadeAs : {R : Type 0} → (ℕ → Type 0) → Tree Label R → Tree ℕ R → Type 0
MadeAs Free leaf leaf = Unit {0}
MadeAs Free leaf (node n l x r) = ⊥
MadeAs Free (node o l x r) leaf = ⊥
MadeAs Free (node o l x r) (node n l' x' r') = Numbered Free o n × (x' ≡ x) × MadeAs Free l l' × MadeAs Free r r'

-- how many new nodes are at the number q
abbrev pub is_new_at : ℕ → Label → ℕ → Bool
is_new_at q (kept m) n = false
is_new_at q new n = q == n

abbrev pub new_at : {R : Type 0} → ℕ → Tree Label R → Tree ℕ R → ℕ
new_at q leaf t = 0
new_at q (node o l x r) leaf = 0
new_at q (node o l x r) (node n l' x' r') = cond (is_new_at q o n) 1 0 + (new_at q l l' + new_at q r r')
