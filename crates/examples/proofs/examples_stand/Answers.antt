use Rattle.std.proofs.Common.{refl, arith}
use Rattle.keys.specs.Decimals.{scaled}
use Rattle.keys.specs.Texts.{order_bytes}
use Rattle.examples.proofs.Texts.{empty_first}
use Rattle.examples.proofs.examples_stand.Goals as goal

pub returns : goal.returns
unfolding scaled order_bytes
returns c = record {
  same_value = refl;
  below_zero = refl;
  coefficient_high = refl;
  scale_high = refl;
  largest = refl;
  prefix = refl;
  empty_first = empty_first;
  sizes = (omega arith, λ e. omega arith, omega arith, λ e. omega arith);
  puts_one_to_six = refl;
  puts_one_five_three_four = refl;
  drop_two = refl;
}
