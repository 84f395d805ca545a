use Rattle.std.proofs.Common.{rules}
use Rattle.std.proofs.lemmas.Result.{err_from_is_err_and}
use Rattle.drafts.proofs.Seeing.{fine_old}
use Rattle.walks.proofs.Walking.{copy_stop, copy_done}
use Rattle.walks.proofs.walk.copy_over.Goals as goal

pub top_over-requires : goal.top_over-requires
top_over-requires g c = search (rules, fine_old)

pub returns-in_err-top : goal.returns-in_err-top
returns-in_err-top g c =
    let p = err_from_is_err_and c.from_residual.result c.from_residual.ensures.1 in
    copy_stop (g.S.Store.cells c.args.store.now) c.args.draft.now c.top_over.new.draft c.args.v.now c.args.left c.region.result c.in_err-top.field-0.0 p.0 c.from_residual.result c.region.ensures c.in_err-top.ensures p.1 p.2

pub returns : goal.returns
returns g c =
    copy_done (g.S.Store.cells c.args.store.now) c.args.draft.now c.top_over.new.draft c.args.v.now c.args.left c.link.result c.region.result c.in_ok-top.top c.region.ensures c.in_ok-top.ensures c.link.ensures
