-- What the comparison of each kind tells.
use Rattle.std.proofs.Common.{◌≡◌, Bool, true, false, cond, ℤ, ◌<ℤ◌, refl, arith}
use lib.Signed.{lt_z}
use Rattle.std.proofs.lemmas.Int.{ints}
use Rattle.std.specs.declared.cmp.Ordering.TheVariants.{Less, Equal, Greater}
use Rattle.keys.specs.Orders.{orderℤ}
use Rattle.keys.specs.Decimals.{scaled}
use Rattle.keys.specs.Texts.{text_bytes}
use Rattle.keys.specs.Meanings.{Tells, ComparisonsTell}
use Rattle.keys.specs.Lexes.{bytes_stand}

by_tests : (a b : ℤ) (p q : Bool) → lt_z a b ≡ p → lt_z b a ≡ q → Tells ◌<ℤ◌ (cond p Less (cond q Greater Equal)) a b
by_tests a b true q h k = grind (arith, ints)
by_tests a b false true h k = grind (arith, ints)
by_tests a b false false h k = grind (arith, ints)

numbers_tell : (a b : ℤ) → Tells ◌<ℤ◌ (orderℤ a b) a b
numbers_tell a b = by_tests a b (lt_z a b) (lt_z b a) refl refl

pub comparisons_tell : ComparisonsTell
comparisons_tell = record {
  wholes = λ a b. numbers_tell a.0 b.0;
  decimals = λ a b. numbers_tell (scaled a) (scaled b);
  texts = λ a b. bytes_stand (text_bytes a) (text_bytes b);
}
