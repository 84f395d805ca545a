use Rattle.std.proofs.Common.{◌-◌}
use Rattle.sessions.specs.Writings.{Rewritten}
use Rattle.sessions.specs.Waiting.{release}
use Rattle.sessions.proofs.Sweeping.{upto}
use Rattle.sessions.proofs.waiting.release.Given as goal

-- the nodes before n are released, and the store is fit if it was
abbrev pub invariant-loop-n : goal.invariant-loop-n
invariant-loop-n g l =
    Rewritten (upto (l.n - 1) (release l.session (g.S.Store.cells l.initial.store))) (g.S.Store.cells l.initial.store) (g.S.Store.cells l.store)
    × (g.S.Store.fit l.initial.store → g.S.Store.fit l.store)
