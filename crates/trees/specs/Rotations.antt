-- Rotations and the balance rule, on trees whose nodes are kept or new.
use Rattle.std.specs.Prelude.{ℕ, ◌+◌, ◌*◌, ◌≤◌, Bool, true, false, nat_lt}
use Rattle.trees.specs.Trees.{Side, left, right, Tree, leaf, node, pick, beside, weight}

-- A node of the tree that an edit makes: a node that stays, by its number, or a new one.
pub data Label : Type 0 where
  kept : ℕ → Label
  new : Label

module _ {R : Type 0} where
  -- A ROTATION towards the light side s, all of new nodes: x is the region of the node that is out of balance, y that of its
  -- heavy side, whose inner side is the one nearer to the light side.
  abbrev pub single : Side → Tree Label R → R → Tree Label R → R → Tree Label R → Tree Label R
  single s light x inner y outer = beside s new (beside s new light x inner) y outer

  -- an empty inner side is never heavy enough to call for a double rotation
  abbrev pub double : Side → Tree Label R → R → Tree Label R → R → Tree Label R → Tree Label R
  double s light x leaf y outer = single s light x leaf y outer
  double s light x (node o a z b) y outer =
      beside s new (beside s new light x (pick s a b)) z (beside s new (pick s b a) y outer)

  abbrev pub rotate_by : Bool → Side → Tree Label R → R → Tree Label R → R → Tree Label R → Tree Label R
  rotate_by true s light x inner y outer = single s light x inner y outer
  rotate_by false s light x inner y outer = double s light x inner y outer

  -- single where the inner side weighs less than twice the outer one; an empty side is never too heavy
  abbrev pub rotate : Side → Tree Label R → R → Tree Label R → Tree Label R
  rotate s light x leaf = beside s new light x leaf
  rotate s light x (node o a y b) =
      rotate_by (nat_lt (weight (pick s a b)) (2 * weight (pick s b a))) s light x (pick s a b) y (pick s b a)

  -- THE BALANCE RULE: the side t is too heavy beside u if it weighs more than 3 times as much

  abbrev pub too_heavy : Tree Label R → Tree Label R → Bool
  too_heavy t u = nat_lt (3 * weight u) (weight t)

  abbrev pub balance_by : Bool → Bool → Label → Tree Label R → R → Tree Label R → Tree Label R
  balance_by true b o l x r = rotate left l x r
  balance_by false true o l x r = rotate right r x l
  balance_by false false o l x r = node o l x r

  -- a node with these sides, or a rotation in its place where one side is too heavy
  abbrev pub balance : Label → Tree Label R → R → Tree Label R → Tree Label R
  balance o l x r = balance_by (too_heavy r l) (too_heavy l r) o l x r

-- two weights that are even but for this much
pub record Nearly (slack a b : ℕ) : Type 0 where
  pub left_near : a ≤ 3 * b + slack
  pub right_near : b ≤ 3 * a + slack

-- two weights that differ by so much at most: so many regions have come or gone
pub record Near (many v w : ℕ) : Type 0 where
  pub more : w ≤ v + many
  pub less : v ≤ w + many
