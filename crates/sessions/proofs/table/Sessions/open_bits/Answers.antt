use Rattle.sessions.proofs.Opens.{next_open, next_closed}
use Rattle.sessions.proofs.table.Sessions.open_bits.Goals as goal
use Rattle.sessions.proofs.table.Sessions.open_bits.Goals.{then-is_open, else-is_open}

pub loop-s-preserved : goal.loop-s-preserved
loop-s-preserved c =
    let i = c.loop-s.invariant in
    elim c.if-is_open.branch [
      | then-is_open w ↦ next_open c.args.self.now.rows c.loop-s.s c.loop-s.bits _ i.0 i.1 c.loop-s-test.true w.if-is_open.ensures w.bits-is
      | else-is_open w ↦ next_closed c.args.self.now.rows c.loop-s.s c.loop-s.bits _ i.0 i.1 w.if-is_open.ensures w.bits-is
    ]
