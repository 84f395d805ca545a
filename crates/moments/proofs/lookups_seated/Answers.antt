use Rattle.moments.proofs.Uses.{open_seated}
use Rattle.moments.proofs.lookups_seated.Goals as goal

pub returns : goal.returns
returns g c = open_seated _
