use Rattle.std.proofs.Common.{rules}
use Rattle.drafts.proofs.Seeing.{good_none}
use Rattle.walks.proofs.Walking.{plant_done}
use Rattle.walks.proofs.walk.plant.Goals as goal

pub join-requires : goal.join-requires
join-requires g c = search (rules, good_none)

pub returns : goal.returns
returns g c = plant_done c.args.draft.now c.join.new.self c.args.region c.join.result c.link.result c.join.ensures c.link.ensures
