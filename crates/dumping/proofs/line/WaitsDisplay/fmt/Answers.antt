use Rattle.std.proofs.Common.{refl}
use Rattle.std.proofs.Output.{has_written_append, has_written_of_eq, has_written_to_eq}
use Rattle.dumping.proofs.Sessions.{set_more, clear_more}
use Rattle.dumping.proofs.line.WaitsDisplay.fmt.Goals as goal
use Rattle.dumping.proofs.line.WaitsDisplay.fmt.Goals.{then-self-session-eq1+in_ok-write, else-self-session-eq1}

pub loop-session-preserved : goal.loop-session-preserved
loop-session-preserved g c plain =
    let took = g.W.Write.write_str_gives in
    let n = c.args.self.now.0 in
    let s = c.loop-session.session-counter in
    let so_far = c.loop-session.invariant plain in
    elim c.if-self-session-eq1.branch [
      | then-self-session-eq1+in_ok-write w ↦
          has_written_to_eq took _ _ _ _ w.f-is (has_written_of_eq took _ _ _ _ (set_more n s w.if-self-session-eq1.true)
          (has_written_append took _ _ _ _ _ so_far (w.in_ok-write.ensures.writes so_far.plain refl)))
      | else-self-session-eq1 w ↦
          has_written_to_eq took _ _ _ _ w.f-is (has_written_of_eq took _ _ _ _ (clear_more n s w.if-self-session-eq1.false) so_far)
    ]
