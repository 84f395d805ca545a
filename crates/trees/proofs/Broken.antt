-- The broken designs, in the cases that break them; and the bound of the balance theorem, which cannot be relaxed.
use Rattle.std.proofs.Common.{◌≡◌, ℕ, refl, arith}
use Rattle.trees.specs.Trees.{right, Tree, leaf, node, Balanced}
use Rattle.trees.specs.Rotations.{Label, new}
use Rattle.trees.specs.Theorems.{Balances, BalancesAfter}
use Rattle.trees.specs.Broken.{CopyingUpBreaks, ShorteningBreaks, RelinkingBreaks}

pub copying_up : CopyingUpBreaks
copying_up = record { made = (refl, refl, (refl, refl, tt, tt), (refl, refl, tt, tt)); off_path = λ h. omega (arith, h 3 (omega arith) (omega arith)) }

pub shortening : ShorteningBreaks
shortening = record {
  parts = record { lower_low = λ x. refl; lower_high = λ x. refl; upper_low = λ x. refl; upper_high = λ x. refl };
  set_gives = refl;
  tree_finds = refl;
  not_the_set = λ e. (let z : ◌≡◌ {A = ℕ} 0 1 = cc in omega arith);
}

pub relinking : RelinkingBreaks
relinking = record { leaves = refl; gave_before = refl; gave_after = refl; with_the_link = refl; without_it = refl }

-- six regions beside none: a single rotation leaves the three of the inner side beside none
abbrev six : Tree Label ℕ
six = node new (node new leaf 0 (node new leaf 0 leaf)) 0 (node new (node new leaf 0 leaf) 0 (node new leaf 0 leaf))

six_balanced : Balanced six
six_balanced =
    (omega arith, (omega arith, tt, (omega arith, tt, tt)), (omega arith, (omega arith, tt, tt), (omega arith, tt, tt)))

pub no_slack : Balances ℕ 4 → ⊥
no_slack h = let b = h new six 0 leaf (omega arith) six_balanced tt in omega (arith, b.2.0)

pub not_after_two : BalancesAfter ℕ 2 → ⊥
not_after_two h = let b = h right 3 new 0 six leaf (omega arith) (omega arith) six_balanced tt in omega (arith, b.2.0)
