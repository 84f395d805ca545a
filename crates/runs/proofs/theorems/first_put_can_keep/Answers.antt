use Rattle.runs.proofs.Puts.{first_put_can_keep}
use Rattle.runs.proofs.theorems.first_put_can_keep.Goals as goal

pub returns : goal.returns
returns g c = first_put_can_keep _
