use Rattle.std.proofs.Common.{◌≡◌, ◌^◌, ◌<◌}
use Rattle.sessions.specs.Lookups.{open_upto}
use Rattle.sessions.proofs.table.Sessions.open_bits.Given as goal

abbrev pub invariant-loop-s : goal.invariant-loop-s
invariant-loop-s l = (l.bits ≡ open_upto l.self.rows l.s) × (l.bits < 2 ^ l.s)
