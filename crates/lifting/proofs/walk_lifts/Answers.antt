use Rattle.std.proofs.Common.{arith}
use Rattle.trees.specs.Rotations.{kept, new}
use Rattle.lifting.proofs.Walking.{walk_lifts}
use Rattle.lifting.proofs.walk_lifts.Goals as goal

pub returns : goal.returns
returns g c cs k e gone n (kept m) a x b s short few = walk_lifts cs k e gone n m a x b s short (omega arith)
returns g c cs k e gone n new a x b s short few = absurd s
