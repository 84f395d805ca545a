use Rattle.moments.proofs.Calls.{open_keeps}
use Rattle.moments.proofs.opens_keep.Goals as goal

pub returns : goal.returns
returns g c = open_keeps _
