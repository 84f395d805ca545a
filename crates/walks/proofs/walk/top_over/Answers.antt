use Rattle.std.proofs.Common.{rules}
use Rattle.std.proofs.lemmas.Result.{err_from_is_err_and}
use Rattle.drafts.specs.Drafts.{tree_of, gone_of, seen_of}
use Rattle.drafts.proofs.Turning.{makes_as}
use Rattle.walks.proofs.Walking.{top_stop, top_seen}
use Rattle.walks.proofs.walk.top_over.Goals as goal

pub returns-in_err-left : goal.returns-in_err-left
returns-in_err-left g c =
    let p = err_from_is_err_and c.from_residual.result c.from_residual.ensures.1 in
    top_stop (g.S.Store.cells c.args.store.now) c.args.region c.args.draft.now c.args.left c.args.right c.in_err-left.field-0.0 p.0 c.from_residual.result c.in_err-left.ensures.value p.1 p.2

pub returns : goal.returns
returns g c =
    let d = c.args.draft.now in
    let e = top_seen (g.S.Store.cells c.args.store.now) (gone_of d) c.args.region (tree_of d c.args.left) (tree_of d c.args.right)
    (seen_of d c.in_ok-left.left) (seen_of d c.in_ok-left.right) c.in_ok-left.ensures.value in
    makes_as (search rules) e
