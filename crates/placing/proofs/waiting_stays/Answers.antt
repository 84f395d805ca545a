use Rattle.placing.proofs.Waitings.{waiting_stays}
use Rattle.placing.proofs.waiting_stays.Goals as goal

pub returns : goal.returns
returns g c = waiting_stays
