use Rattle.placing.proofs.Layings.{places_spell}
use Rattle.placing.proofs.places_spell.Goals as goal

pub returns : goal.returns
returns g c = places_spell
