use Rattle.trees.proofs.Rotations.{balance_order, balance_count}
use Rattle.trees.proofs.balance_keeps_order.Goals as goal

pub returns : goal.returns
returns g c o l x r = (balance_order o l x r, balance_count o l x r)
