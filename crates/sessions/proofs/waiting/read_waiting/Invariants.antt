use Rattle.std.proofs.Common.{◌≡◌, ◌-◌, drop}
use Rattle.sessions.specs.Waiting.{first_closed, closed_waiting}
use Rattle.sessions.proofs.waiting.read_waiting.Given as goal

-- the first closed waiting node, if any, is among those that are left
abbrev pub invariant-loop-n : goal.invariant-loop-n
invariant-loop-n g l =
    first_closed l.n (drop (l.n - 1) (g.S.Store.cells l.store)) ≡ closed_waiting (g.S.Store.cells l.store)
