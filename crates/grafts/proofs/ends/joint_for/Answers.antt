use Rattle.std.proofs.lemmas.Result.{err_from_is_err_and}
use Rattle.stacks.specs.Held.{held}
use Rattle.search.specs.Paths.{lowest}
use Rattle.grafts.proofs.Ending.{joint_root, joint_unread, joint_under}
use Rattle.grafts.proofs.ends.joint_for.Goals as goal

pub returns-in_default : goal.returns-in_default
unfolding lowest
returns-in_default g c = joint_root _ c.args.sought.now (g.S.Store.cells c.args.store.now) (held c.args.way.now) c.in_default.ensures

pub returns-in_err-node : goal.returns-in_err-node
unfolding lowest
returns-in_err-node g c =
    let p = err_from_is_err_and c.from_residual.result c.from_residual.ensures.1 in
    joint_unread _ c.args.sought.now (g.S.Store.cells c.args.store.now) (held c.args.way.now) c.in-Some.number _ _ _ c.in-Some.ensures c.in_err-node.ensures p.1 p.2

pub returns : goal.returns
unfolding lowest
returns g c =
    joint_under _ c.args.sought.now (g.S.Store.cells c.args.store.now) (held c.args.way.now) c.in-Some.number c.in_ok-node.node c.side_at.result c.unwrap_or-side.result
    c.in-Some.ensures c.in_ok-node.ensures c.side_at.ensures c.unwrap_or-side.ensures
