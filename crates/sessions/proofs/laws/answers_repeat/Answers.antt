use Rattle.sessions.proofs.Repeats.{answers_repeat}
use Rattle.sessions.proofs.laws.answers_repeat.Goals as goal

pub returns : goal.returns
returns g c = answers_repeat g.row.K.Denot
