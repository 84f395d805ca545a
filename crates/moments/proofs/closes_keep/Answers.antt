use Rattle.moments.proofs.Closes.{close_keeps}
use Rattle.moments.proofs.closes_keep.Goals as goal

pub returns : goal.returns
returns g c = close_keeps _
