-- Binary trees: what they list and weigh, when they are balanced, and how a search goes through them.
use Rattle.std.specs.Prelude.{ℕ, suc, ◌+◌, ◌*◌, ◌≤◌, max, cond, List, [], ◌∷◌, ◌++◌, Some, None, Option}
use Rattle.trees.specs.Regions.{Ranges, holds, below}

pub data Side : Type 0 where
  left right : Side

-- what a search does at a node: it goes on to one side, or ends there
pub data Turn : Type 0 where
  to_left here to_right : Turn

abbrev pub towards : Side → Turn
towards left = to_left
towards right = to_right

abbrev pub at_turn : {A : Type 0} → Turn → A → A → A → A
at_turn to_left a b c = a
at_turn here a b c = b
at_turn to_right a b c = c

-- L labels the nodes, R is what each holds
pub data Tree (L R : Type 0) : Type 0 where
  leaf : Tree L R
  node : L → Tree L R → R → Tree L R → Tree L R

-- of two things, the one on that side of the first
abbrev pub pick : {A : Type 0} → Side → A → A → A
pick left a b = a
pick right a b = b

module _ {L R : Type 0} where
  -- a node with t on the side s, and u on the other
  abbrev pub beside : Side → L → Tree L R → R → Tree L R → Tree L R
  beside left o t x u = node o t x u
  beside right o t x u = node o u x t

  abbrev pub inorder : Tree L R → List R
  inorder leaf = []
  inorder (node o l x r) = inorder l ++ (x ∷ inorder r)

  abbrev pub count : Tree L R → ℕ
  count leaf = 0
  count (node o l x r) = suc (count l + count r)

  abbrev pub weight : Tree L R → ℕ
  weight t = suc (count t)

  -- what the top holds
  abbrev pub root : Tree L R → Option R
  root leaf = None
  root (node o l x r) = Some x

  -- the most nodes on any path down from the top
  abbrev pub height : Tree L R → ℕ
  height leaf = 0
  height (node o l x r) = suc (max (height l) (height r))

-- neither of two weights is more than 3 times the other
pub record Even (a b : ℕ) : Type 0 where
  pub left_light : a ≤ 3 * b
  pub right_light : b ≤ 3 * a

abbrev pub Balanced : {L R : Type 0} → Tree L R → Type 0
Balanced leaf = Unit {0}
Balanced (node o l x r) = Even (weight l) (weight r) × Balanced l × Balanced r

-- SEARCHES. How a search goes is said by the turn that it takes at what a node holds.

-- the search for the key k
abbrev pub seek : {K R : Type 0} → Ranges K R → K → R → Turn
seek g k x = cond (holds g x k) here (cond (below g k (g.low x)) to_left to_right)

module _ {L R : Type 0} (turn : R → Turn) where
  -- the nodes that the search visits, the top first
  abbrev pub path : Tree L R → List L
  path leaf = []
  path (node o l x r) = o ∷ at_turn (turn x) (path l) [] (path r)

  -- what those nodes hold
  abbrev pub visited : Tree L R → List R
  visited leaf = []
  visited (node o l x r) = x ∷ at_turn (turn x) (visited l) [] (visited r)

  -- what the node holds that the search ends at
  abbrev pub found : Tree L R → Option R
  found leaf = None
  found (node o l x r) = at_turn (turn x) (found l) (Some x) (found r)
