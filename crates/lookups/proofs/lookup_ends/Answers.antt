use Rattle.lookups.proofs.Theorems.{steps_end}
use Rattle.lookups.proofs.lookup_ends.Goals as goal

pub returns : goal.returns
returns g c = steps_end _
