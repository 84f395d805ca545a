use Rattle.std.proofs.Common.{rules}
use Rattle.drafts.proofs.Seeing.{good_stays}
use Rattle.drafts.proofs.Turning.{lift_done}
use Rattle.drafts.proofs.turns.Tilt.lift.Goals as goal

pub join_by-high-requires : goal.join_by-high-requires
join_by-high-requires g c = search (rules, good_stays)

pub join_by-requires : goal.join_by-requires
join_by-requires g c = search (rules, good_stays)

pub returns : goal.returns
returns g c =
    lift_done _ _ _ _ c.args.draft.now _ _ _ c.args.self.now.light c.args.inner.now c.args.other.now c.args.outer.now c.join_by-low.result c.join_by-high.result _
    c.requires.other c.requires.outer c.join_by-low.ensures c.join_by-high.ensures c.join_by.ensures
