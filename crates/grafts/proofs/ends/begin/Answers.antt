use Rattle.std.proofs.lemmas.Result.{err_from_is_err_and}
use Rattle.stacks.specs.Held.{held}
use Rattle.grafts.proofs.Ending.{begin_busy, begin_stopped, begin_done}
use Rattle.grafts.proofs.ends.begin.Goals as goal

pub returns-in_err-at_rest : goal.returns-in_err-at_rest
returns-in_err-at_rest g c =
    let p = err_from_is_err_and c.from_residual.result c.from_residual.ensures.1 in
    begin_busy _ c.args.sought.now (g.S.Store.cells c.args.store.now) (held c.args.tree.now.path) c.args.tree.now.root _ _ _ c.in_err-at_rest.ensures p.1 p.2

pub returns-in_err-end : goal.returns-in_err-end
returns-in_err-end g c =
    let p = err_from_is_err_and c.from_residual-in_err-end.result c.from_residual-in_err-end.ensures.1 in
    begin_stopped _ c.args.sought.now (g.S.Store.cells c.args.store.now) (held c.args.tree.now.path) c.args.tree.now.root _ c.descend.new.path c.descend.result _ _ _ c.in_ok-at_rest.ensures c.new-way.ensures c.descend.ensures c.in_err-end.ensures p.1 p.2

pub returns : goal.returns
returns g c =
    begin_done _ c.args.sought.now (g.S.Store.cells c.args.store.now) (held c.args.tree.now.path) c.args.tree.now.root _ _ c.descend.result _ c.in_ok-at_rest.ensures c.new-way.ensures c.descend.ensures c.in_ok-end.ensures
