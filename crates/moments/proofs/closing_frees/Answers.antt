use Rattle.moments.proofs.Uses.{closing_frees}
use Rattle.moments.proofs.closing_frees.Goals as goal

pub returns : goal.returns
returns g c = closing_frees _
