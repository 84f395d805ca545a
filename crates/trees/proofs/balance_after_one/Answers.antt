use Rattle.std.proofs.Common.{arith}
use Rattle.trees.proofs.Places.{settled_balanced}
use Rattle.trees.proofs.balance_after_one.Goals as goal

pub returns : goal.returns
returns g c s w o x u t even near bu bt = (settled_balanced s w o x u t even bu (omega (arith, near)) bt).1
