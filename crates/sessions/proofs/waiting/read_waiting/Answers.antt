use Rattle.std.proofs.Common.{◌≡◌, ◌+◌, ◌-◌, ◌<◌, ◌≤◌, length, arith}
use Rattle.store.proofs.Insides.{count_is}
use Rattle.sessions.proofs.Releases.{reading_goes_on}
use Rattle.sessions.proofs.waiting.read_waiting.Goals as goal

pub loop-n-preserved : goal.loop-n-preserved
loop-n-preserved g c =
    let cs = g.S.Store.cells c.args.store.now in
    let n = c.loop-n.n in
    let some : 0 < n = omega arith in
    let h : n ≤ length cs = omega (arith, count_is cs) in
    let same : n + 1 - 1 ≡ n = omega arith in
    reading_goes_on cs n _ some h c.in_ok-waiting_at.ensures c.loop-n.invariant (n + 1 - 1) same
