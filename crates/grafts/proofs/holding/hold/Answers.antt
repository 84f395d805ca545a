use Rattle.std.proofs.Common.{ap, ◌∙◌}
use Rattle.std.proofs.lemmas.Result.{err_from_is_err_and}
use Rattle.stacks.specs.Held.{held}
use Rattle.edits.specs.declared.fault.Doing.TheVariants.{Copy}
use Rattle.edits.specs.Refusals.{during}
use Rattle.grafts.proofs.Exits.{begins_err, begins_ok}
use Rattle.grafts.proofs.Keeping.{hold_begun, hold_missing, hold_unread, hold_done, held_end}
use Rattle.grafts.proofs.holding.hold.Goals as goal

pub returns-in_err-way : goal.returns-in_err-way
returns-in_err-way g c =
    let p = err_from_is_err_and c.from_residual.result c.from_residual.ensures.1 in
    hold_begun _ c.args.key.now (g.S.Store.cells c.args.store.now) (held c.args.tree.now.path) c.args.tree.now.root _ _ _ (begins_err _ _ c.in_err-way.ensures) p.1 p.2

pub returns-in_err-number : goal.returns-in_err-number
returns-in_err-number g c =
    let p = err_from_is_err_and c.from_residual-in_err-number.result c.from_residual-in_err-number.ensures.1 in
    hold_missing _ c.args.key.now (g.S.Store.cells c.args.store.now) (held c.args.tree.now.path) c.args.tree.now.root _ _ _ _ (begins_ok _ _ _ c.in_ok-way.ensures) (c.in_err-number.ensures.value ∙ held_end c.in_ok-way.end) p.1 p.2

pub returns-in_err-node : goal.returns-in_err-node
returns-in_err-node g c =
    let p = err_from_is_err_and c.from_residual-in_err-node.result c.from_residual-in_err-node.ensures.1 in
    hold_unread _ c.args.key.now (g.S.Store.cells c.args.store.now) (held c.args.tree.now.path) c.args.tree.now.root _ c.in_ok-number.number _ _ _ (begins_ok _ _ _ c.in_ok-way.ensures) (c.in_ok-number.ensures.value ∙ held_end c.in_ok-way.end)
    (c.in_err-node.ensures ∙ ap (during Copy) c.read.ensures) p.1 p.2

pub returns : goal.returns
returns g c =
    hold_done _ c.args.key.now (g.S.Store.cells c.args.store.now) (held c.args.tree.now.path) c.args.tree.now.root _ _ c.in_ok-number.number c.in_ok-node.node (begins_ok _ _ _ c.in_ok-way.ensures) (c.in_ok-number.ensures.value ∙ held_end c.in_ok-way.end)
    (c.in_ok-node.ensures ∙ ap (during Copy) c.read.ensures)
