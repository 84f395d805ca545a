use Rattle.lifting.proofs.Seeing.{sees}
use Rattle.lifting.proofs.seeing_is_true.Goals as goal

pub returns : goal.returns
returns g c cs = sees cs
