use Rattle.sessions.proofs.Lawful.{release_law}
use Rattle.sessions.proofs.laws.close_releases.Goals as goal

pub returns : goal.returns
returns g c = release_law g.row.K.Denot
