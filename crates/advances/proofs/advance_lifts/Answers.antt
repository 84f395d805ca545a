use Rattle.advances.proofs.Advancing.{advance_lifts}
use Rattle.advances.proofs.advance_lifts.Goals as goal

pub returns : goal.returns
returns g c cs = advance_lifts cs
