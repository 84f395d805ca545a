use Rattle.std.proofs.Common.{rules}
use Rattle.std.proofs.lemmas.Result.{err_from_is_err_and}
use Rattle.drafts.proofs.Seeing.{fine_old}
use Rattle.edits.proofs.Advancing.{sized_done, sized_unread, sized_left, sized_right}
use Rattle.edits.proofs.pending.weigh_up.Goals as goal

pub returns-in_err-v : goal.returns-in_err-v
returns-in_err-v g c =
    let p = err_from_is_err_and c.from_residual.result c.from_residual.ensures.1 in
    let q = sized_unread (g.S.Store.cells c.args.store.now) c.args.draft.now c.args.n _ _ _ c.in_err-v.ensures p.1 p.2 in
    record { value = q.0; good = q.1 }

pub see-requires : goal.see-requires
see-requires g c =
    let link = fine_old c.args.draft.now c.in_ok-v.v.left in
    search rules

pub returns-in_err-left : goal.returns-in_err-left
returns-in_err-left g c =
    let p = err_from_is_err_and c.from_residual-in_err-left.result c.from_residual-in_err-left.ensures.1 in
    let q = sized_left (g.S.Store.cells c.args.store.now) c.args.draft.now c.args.n c.in_ok-v.v _ _ _ c.in_ok-v.ensures c.in_err-left.ensures.value p.1 p.2 in
    record { value = q.0; good = q.1 }

pub see-requires-2 : goal.see-requires-2
see-requires-2 g c =
    let link = fine_old c.args.draft.now c.in_ok-v.v.right in
    search rules

pub returns-in_err-right : goal.returns-in_err-right
returns-in_err-right g c =
    let p = err_from_is_err_and c.from_residual-in_err-right.result c.from_residual-in_err-right.ensures.1 in
    let q = sized_right (g.S.Store.cells c.args.store.now) c.args.draft.now c.args.n c.in_ok-v.v c.in_ok-left.left _ _ _ c.in_ok-v.ensures
    c.in_ok-left.ensures.value c.in_err-right.ensures.value p.1 p.2 in
    record { value = q.0; good = q.1 }

pub returns : goal.returns
returns g c = record {
  value = sized_done (g.S.Store.cells c.args.store.now) c.args.draft.now c.args.n c.in_ok-v.v c.resize.result c.in_ok-left.left c.in_ok-right.right
      c.weight.result c.weight-2.result c.size_over-size.result c.in_ok-v.ensures c.in_ok-left.ensures.value c.in_ok-right.ensures.value
      c.resize.ensures c.size_over-size.ensures c.weight.ensures.value c.weight-2.ensures.value;
  good = (c.in_ok-left.ensures.good, c.in_ok-right.ensures.good);
}
