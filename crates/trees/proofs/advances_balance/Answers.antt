use Rattle.trees.proofs.Places.{climb_order, climb_balanced}
use Rattle.trees.proofs.advances_balance.Goals as goal

pub returns : goal.returns
returns g c fs t m = (climb_order fs t, climb_balanced fs m.weighed t m.pending m.changed m.below)
