use Rattle.moments.proofs.Calls.{step_keeps}
use Rattle.moments.proofs.steps_keep.Goals as goal

pub returns : goal.returns
returns g c = step_keeps _
