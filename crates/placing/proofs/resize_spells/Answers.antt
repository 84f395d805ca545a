use Rattle.placing.proofs.Resizings.{resize_spells}
use Rattle.placing.proofs.resize_spells.Goals as goal

pub returns : goal.returns
returns g c = resize_spells
