use Rattle.moments.proofs.Calls.{refused_keeps}
use Rattle.moments.proofs.refusals_keep.Goals as goal

pub returns : goal.returns
returns g c = refused_keeps _
