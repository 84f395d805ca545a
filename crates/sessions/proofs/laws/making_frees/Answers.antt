use Rattle.sessions.proofs.Freed.{making_law}
use Rattle.sessions.proofs.laws.making_frees.Goals as goal

pub returns : goal.returns
returns g c = making_law g.row.K.Denot
