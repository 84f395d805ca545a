use Rattle.std.proofs.Common.{arith}
use Rattle.runs.proofs.Cheats.{second_put}
use Rattle.runs.proofs.theorems.second_put_leaves_one.Goals as goal

pub returns : goal.returns
returns c z y y' n k k' = let one = second_put z y y' n k k' in omega arith
