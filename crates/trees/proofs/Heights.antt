-- How high a balanced tree can be.
use Rattle.std.proofs.Common.{ℕ, zero, suc, ◌+◌, ◌/◌, ◌<◌, ◌≤◌, length, arith}
use Rattle.trees.specs.Trees.{Turn, Tree, leaf, node, count, weight, height, Even, Balanced, path}

-- a balanced tree that is higher than d weighs at least as much as `least (d + 1)`: the heavier side has at most 3/4 of the weight
abbrev pub least : ℕ → ℕ
least zero = 1
least (suc d) = least d + (least d + 2) / 3

side_light : (m a b : ℕ) → Even a b → a + b < m + (m + 2) / 3 → (a < m) × (b < m)
side_light m a b e h = omega arith

pub height_under : {L R : Type 0} (d : ℕ) (t : Tree L R) → Balanced t → weight t < least (suc d) → height t ≤ d
height_under d leaf b h = omega arith
height_under zero (node n l x r) b h = omega arith
height_under (suc d) (node n l x r) b h =
    let s = side_light (least (suc d)) (weight l) (weight r) b.0 (omega arith) in
    let hl = height_under d l b.1 s.0 in
    let hr = height_under d r b.2 s.1 in
    omega arith

pub height_low : {L R : Type 0} (t : Tree L R) → Balanced t → count t ≤ 3968 → height t ≤ 27
height_low t b h = height_under 27 t b (omega arith)

path_height : {L R : Type 0} (turn : R → Turn) (t : Tree L R) → length (path turn t) ≤ height t
path_height turn leaf = omega arith
path_height turn (node o l x r) = grind (arith, path_height turn l, path_height turn r)

pub path_under : {L R : Type 0} (d : ℕ) (turn : R → Turn) (t : Tree L R) → height t ≤ d → length (path turn t) ≤ d
path_under d turn t h = omega (arith, path_height turn t)
