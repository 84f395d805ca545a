use Rattle.placing.proofs.Hangings.{commit_spells}
use Rattle.placing.proofs.commit_spells.Goals as goal

pub returns : goal.returns
returns g c = commit_spells
