use Rattle.placing.proofs.Writings.{read_back}
use Rattle.placing.proofs.writes_read_back.Goals as goal

pub returns : goal.returns
returns g c = read_back
