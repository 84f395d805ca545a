use Rattle.std.proofs.Common.{arith}
use Rattle.runs.proofs.Cheats.{few_are_free}
use Rattle.runs.proofs.theorems.thirteen_is_true.Goals as goal

pub returns : goal.returns
returns g c z y ts call k k' =
    let few = few_are_free _ z y ts call k k' in
    record { at_all = omega arith; at_put = λ low high rows e. omega (arith, few.at_put low high rows e) }
