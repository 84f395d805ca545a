use Rattle.advances.proofs.Hanging.{joint_found}
use Rattle.advances.proofs.joint_is_found.Goals as goal

pub returns : goal.returns
returns g c cs pending = joint_found cs pending
