use Rattle.std.proofs.Common.{refl}
use Rattle.lifting.proofs.Turning.{balanced_lifts}
use Rattle.lifting.proofs.balance_lifts.Goals as goal

pub returns : goal.returns
returns g c cs gone x l r tl tr sl sr few = balanced_lifts cs _ gone x l r tl tr sl sr few (λ n. refl)
