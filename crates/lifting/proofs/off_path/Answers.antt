use Rattle.lifting.proofs.Standing.{off_path}
use Rattle.lifting.proofs.off_path.Goals as goal

pub returns : goal.returns
returns g c = off_path
