use Rattle.std.proofs.Common.{◌-◌}
use Rattle.sessions.proofs.Makes.{Counted}
use Rattle.sessions.proofs.pool.count_pool.Given as goal

-- the nodes before n are counted
abbrev pub invariant-loop-n : goal.invariant-loop-n
invariant-loop-n g l = Counted (g.S.Store.cells l.store) (l.n - 1) l.counts
