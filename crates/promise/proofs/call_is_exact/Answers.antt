use Rattle.promise.proofs.Exacts.{calls_exact}
use Rattle.promise.proofs.call_is_exact.Goals as goal

pub returns : goal.returns
returns g c = calls_exact _
