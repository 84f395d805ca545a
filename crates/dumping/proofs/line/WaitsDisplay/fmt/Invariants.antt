use Rattle.std.specs.Fmt.{IsPlainFormatter, HasWritten}
use Rattle.dumping.specs.Nodes.{sessions}
use Rattle.dumping.proofs.line.WaitsDisplay.fmt.Given as goal

-- the sessions so far are written
abbrev pub invariant-loop-session : goal.invariant-loop-session
invariant-loop-session g l = IsPlainFormatter l.initial.f → HasWritten g.W.Write.write_str_gives l.initial.f (sessions l.self.0 0 l.session-counter) l.f
