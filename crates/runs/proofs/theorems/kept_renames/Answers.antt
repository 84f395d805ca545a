use Rattle.runs.proofs.Kepts.{kept_renames}
use Rattle.runs.proofs.theorems.kept_renames.Goals as goal

pub returns : goal.returns
returns g c = kept_renames _
