use Rattle.std.proofs.Common.{refl}
use Rattle.store.proofs.Readables.{range_counted}
use Rattle.packed.specs.Rooms.{byte_nodes}
use Rattle.packed.proofs.meanings.byte_store_meaning.Goals as goal

pub returns : goal.returns
returns g c = λ s. (refl, range_counted (byte_nodes g.K.Key s.bytes.now))
