use Rattle.std.proofs.Common.{◌+◌, ◌-◌, ◌≡◌, ◌<◌, ◌≤◌, length, Ok, refl, ap, arith}
use Rattle.store.proofs.Insides.{count_is}
use Rattle.sessions.proofs.Makes.{counting, all_counted}
use Rattle.sessions.proofs.pool.count_pool.Goals as goal

pub loop-n-preserved : goal.loop-n-preserved
loop-n-preserved g c =
    let cs = g.S.Store.cells c.args.store.now in
    let n = c.loop-n.n in
    let some : 0 < n = omega arith in
    let h : n ≤ length cs = omega (arith, count_is cs) in
    let same : n + 1 - 1 ≡ n = omega arith in
    counting cs n _ _ _ _ some h c.in_ok-mark.ensures c.add.ensures c.loop-n.invariant same

pub returns-in_ok-mark : goal.returns-in_ok-mark
returns-in_ok-mark g c =
    let cs = g.S.Store.cells c.args.store.now in
    let n = c.loop-n.n in
    let some : 0 < n = omega arith in
    let h : n ≤ length cs = omega (arith, count_is cs) in
    let long : length cs ≤ n = omega (arith, count_is cs) in
    ap Ok (all_counted cs n _ long (counting cs n _ _ _ _ some h c.in_ok-mark.ensures c.add.ensures c.loop-n.invariant refl))

pub returns : goal.returns
returns g c =
    let cs = g.S.Store.cells c.args.store.now in
    let long : length cs ≤ c.loop-n.n - 1 = omega (arith, count_is cs) in
    ap Ok (all_counted cs (c.loop-n.n - 1) _ long c.loop-n.invariant)
