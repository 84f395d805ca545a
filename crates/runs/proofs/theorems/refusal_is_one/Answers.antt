use Rattle.runs.proofs.Lines.{one_refusal}
use Rattle.runs.proofs.theorems.refusal_is_one.Goals as goal

pub returns : goal.returns
returns g c = one_refusal _
