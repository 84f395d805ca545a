use Rattle.moments.proofs.Gives.{inv_gives}
use Rattle.moments.proofs.invariant_gives.Goals as goal

pub returns : goal.returns
returns g c = inv_gives _
