use Rattle.std.proofs.Common.{◌-◌, length}
use Rattle.stacks.specs.Held.{held}
use Rattle.search.proofs.search.+descend.Given as goal

abbrev pub decreases-descend : goal.decreases-descend
decreases-descend g l = 27 - length (held l.path.now)
