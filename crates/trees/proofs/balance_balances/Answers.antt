use Rattle.std.proofs.Common.{arith}
use Rattle.trees.proofs.Rotations.{balance_balanced}
use Rattle.trees.proofs.balance_balances.Goals as goal

pub returns : goal.returns
returns g c o l x r near bl br = balance_balanced o l x r (omega (arith, near)) bl br
