use Rattle.std.proofs.Common.{rules}
use Rattle.drafts.proofs.Seeing.{good_stays}
use Rattle.drafts.proofs.Turning.{once_done}
use Rattle.drafts.proofs.turns.Tilt.turn_once.Goals as goal

pub join_by-requires : goal.join_by-requires
join_by-requires g c = search (rules, good_stays)

pub returns : goal.returns
returns g c =
    once_done _ _ _ c.args.draft.now _ _ c.args.self.now.light c.args.inner.now c.args.outer.now c.join_by-low.result _ c.requires.outer
    c.join_by-low.ensures c.join_by.ensures
