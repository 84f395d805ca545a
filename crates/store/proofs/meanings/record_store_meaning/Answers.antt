use Rattle.std.proofs.Common.{refl}
use Rattle.store.proofs.Readables.{range_counted}
use Rattle.store.proofs.meanings.record_store_meaning.Goals as goal

pub returns : goal.returns
returns g c = λ s. (refl, range_counted s.nodes.now)
