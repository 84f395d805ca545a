use Rattle.packed.proofs.Sames.{same}
use Rattle.packed.proofs.meanings.same_meaning.Goals as goal

pub returns : goal.returns
returns g c = same g.K.Key
