use Rattle.drafts.proofs.Seeing.{takes_none, takes_stored, takes_drafted}
use Rattle.drafts.proofs.draft.Draft.take_apart.Goals as goal

pub returns-in-Empty : goal.returns-in-Empty
returns-in-Empty g c = takes_none c.args.self.now c.args.side.now c.in-Empty.is

pub returns-in-Stored : goal.returns-in-Stored
returns-in-Stored g c = rw c.region.ensures (takes_stored c.args.self.now c.leave.new.self c.args.side.now _ c.in-Stored.is c.leave.ensures.gone c.leave.ensures.made)

pub returns-in-Drafted : goal.returns-in-Drafted
returns-in-Drafted g c = takes_drafted c.args.self.now c.args.side.now _ _ c.in-Drafted.is c.requires.side
