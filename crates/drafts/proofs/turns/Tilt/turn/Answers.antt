use Rattle.std.proofs.Common.{rules}
use Rattle.drafts.proofs.Seeing.{good_stays}
use Rattle.drafts.proofs.Turning.{turn_none, turn_some}
use Rattle.drafts.proofs.turns.Tilt.turn.Goals as goal

pub join_by-requires : goal.join_by-requires
join_by-requires g c = search (rules, good_stays)

pub turn_over-requires : goal.turn_over-requires
turn_over-requires g c =
    let fine = c.in-Some.ensures.fine_parts in
    search (rules, good_stays)

pub returns-in-None : goal.returns-in-None
returns-in-None g c =
    turn_none _ _ _ c.args.draft.now c.take_apart.new.self _ c.args.self.now.light c.args.heavy.now _ c.requires.light c.requires.heavy c.in-None.ensures c.join_by.ensures

pub returns-in-Some : goal.returns-in-Some
returns-in-Some g c =
    turn_some _ _ _ c.args.draft.now c.take_apart.new.self _ c.args.self.now.light c.args.heavy.now c.in-Some.top _ c.requires.light c.in-Some.ensures c.turn_over.ensures
