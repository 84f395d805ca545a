use Rattle.lifting.proofs.Standing.{spelled_stands}
use Rattle.lifting.proofs.spelled_stands.Goals as goal

pub returns : goal.returns
returns g c cs pending = spelled_stands cs pending
