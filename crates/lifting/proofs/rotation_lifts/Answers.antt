use Rattle.std.proofs.Common.{refl}
use Rattle.lifting.proofs.Turning.{rotated_lifts}
use Rattle.lifting.proofs.rotation_lifts.Goals as goal

pub returns : goal.returns
returns g c cs gone o x l r tl tr sl sr few = rotated_lifts cs _ gone o x l r tl tr sl sr few (λ n. refl)
