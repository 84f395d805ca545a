use Rattle.moments.proofs.Uses.{rows_tell}
use Rattle.moments.proofs.rows_tell.Goals as goal

pub returns : goal.returns
returns g c = rows_tell _
