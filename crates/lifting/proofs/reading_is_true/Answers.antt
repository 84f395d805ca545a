use Rattle.lifting.proofs.Seeing.{read_parts}
use Rattle.lifting.proofs.reading_is_true.Goals as goal

pub returns : goal.returns
returns g c cs = read_parts cs
