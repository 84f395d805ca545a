use Rattle.std.proofs.lemmas.Result.{err_from_is_err_and}
use Rattle.search.specs.Paths.{lowest}
use Rattle.edits.proofs.Advancing.{joint_root, joint_unread, joint_under}
use Rattle.edits.proofs.pending.joint_of.Goals as goal

pub returns-in_default : goal.returns-in_default
unfolding lowest
returns-in_default g c = joint_root (g.S.Store.cells c.args.store.now) c.args.above.now c.args.n c.in_default.ensures.value

pub returns-in_err-node : goal.returns-in_err-node
unfolding lowest
returns-in_err-node g c =
    let p = err_from_is_err_and c.from_residual.result c.from_residual.ensures.1 in
    joint_unread (g.S.Store.cells c.args.store.now) c.args.above.now c.args.n c.in-Some.field-0.now _ _ _ c.in-Some.ensures.value c.in_err-node.ensures p.1 p.2

pub returns : goal.returns
unfolding lowest
returns g c =
    joint_under (g.S.Store.cells c.args.store.now) c.args.above.now c.args.n c.in-Some.field-0.now c.in_ok-node.node _ c.in-Some.ensures.value c.in_ok-node.ensures c.towards-side.ensures
