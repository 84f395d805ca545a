use Rattle.moments.proofs.Uses.{thirteen_only_while_open}
use Rattle.moments.proofs.thirteen_only_while_open.Goals as goal

pub returns : goal.returns
returns g c = thirteen_only_while_open _
