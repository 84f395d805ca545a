use Rattle.sessions.proofs.Lawful.{way_tells}
use Rattle.sessions.proofs.laws.ways_tell.Goals as goal

pub returns : goal.returns
returns g c = λ key low high k l h. way_tells g.K.Ordered.fault g.K.Ordered.order key low high k l h
