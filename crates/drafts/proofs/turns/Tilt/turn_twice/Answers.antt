use Rattle.std.proofs.Common.{rules}
use Rattle.drafts.proofs.Seeing.{good_stays}
use Rattle.drafts.proofs.Turning.{twice_none, twice_some}
use Rattle.drafts.proofs.turns.Tilt.turn_twice.Goals as goal

pub turn_once-requires : goal.turn_once-requires
turn_once-requires g c = search (rules, good_stays)

pub raise-requires : goal.raise-requires
raise-requires g c =
    let fine = c.in-Some.ensures.fine_parts in
    search (rules, good_stays)

pub returns-in-None : goal.returns-in-None
returns-in-None g c =
    twice_none _ _ _ _ c.args.draft.now c.take_apart.new.self _ c.args.self.now.light c.args.inner.now c.args.outer.now _ c.requires.light c.requires.inner c.requires.outer
    c.in-None.ensures c.turn_once.ensures

pub returns-in-Some : goal.returns-in-Some
returns-in-Some g c =
    twice_some _ _ _ _ c.args.draft.now c.take_apart.new.self _ c.args.self.now.light c.args.inner.now c.args.outer.now c.in-Some.mid _ c.requires.light c.requires.outer
    c.in-Some.ensures c.raise.ensures
