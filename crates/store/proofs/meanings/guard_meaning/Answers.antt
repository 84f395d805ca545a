use Rattle.std.proofs.Common.{refl}
use Rattle.store.proofs.meanings.guard_meaning.Goals as goal

pub returns : goal.returns
returns g c = λ s. (refl, record { to = λ f. f; from = λ f. f })
