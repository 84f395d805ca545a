use Rattle.std.proofs.Common.{◌≡◌, suc, ◌-◌, arith, rules}
use Rattle.std.proofs.lemmas.Result.{err_from_is_err_and}
use Rattle.walks.proofs.Walking.{left_one, deeper, walk_unread, walk_end_stop, walk_end_done, walk_on_stop, walk_uncopied, walk_done}
use Rattle.walks.proofs.walk.+walk.Goals as goal

pub returns-in_err-v : goal.returns-in_err-v
returns-in_err-v g t c =
    let p = err_from_is_err_and c.from_residual.result c.from_residual.ensures.1 in
    walk_unread c.args.depth (g.S.Store.cells c.args.store.now) c.args.added c.args.draft.now c.args.n c.in_err-v.field-0.0 p.0 c.from_residual.result c.in_err-v.ensures p.1 p.2

pub returns-in_err-end-in-None : goal.returns-in_err-end-in-None
returns-in_err-end-in-None g t c =
    let p = err_from_is_err_and c.from_residual-in_err-end-in-None.result c.from_residual-in_err-end-in-None.ensures.1 in
    walk_end_stop c.args.depth (g.S.Store.cells c.args.store.now) c.args.added c.args.draft.now c.leave.new.self c.end_edge.new.draft c.args.n c.in_ok-v.v c.in_err-end-in-None.field-0.0 p.0 c.from_residual-in_err-end-in-None.result c.in_ok-v.ensures c.in-None.ensures
    (left_one _ _ _ c.leave.ensures.gone c.leave.ensures.made) c.in_err-end-in-None.ensures p.1 p.2

pub returns-in_ok-end-in-None : goal.returns-in_ok-end-in-None
returns-in_ok-end-in-None g t c =
    walk_end_done c.args.depth (g.S.Store.cells c.args.store.now) c.args.added c.args.draft.now c.leave.new.self c.end_edge.new.draft c.args.n c.in_ok-v.v c.in_ok-end-in-None.end c.in_ok-v.ensures c.in-None.ensures
    (left_one _ _ _ c.leave.ensures.gone c.leave.ensures.made) c.in_ok-end-in-None.ensures

pub overflow_sub-depth : goal.overflow_sub-depth
overflow_sub-depth g t c = deeper c.args.depth c.in_ok-v.v.left c.in-Some.m c.in-Some.ensures

pub walk-requires : goal.walk-requires
walk-requires g t c κs within =
    let h = deeper c.args.depth c.in_ok-v.v.left c.in-Some.m c.in-Some.ensures in
    let f = left_one c.args.draft.now _ _ c.leave.ensures.gone c.leave.ensures.made in
    search rules

pub returns-in_err-least-in-Some : goal.returns-in_err-least-in-Some
returns-in_err-least-in-Some g t c =
    let p = err_from_is_err_and c.from_residual-in_err-least-in-Some.result c.from_residual-in_err-least-in-Some.ensures.1 in
    let h = deeper c.args.depth c.in_ok-v.v.left c.in-Some.m c.in-Some.ensures in
    let s : c.args.depth ≡ suc (c.args.depth - 1) = omega (arith, h) in
    walk_on_stop c.args.depth (c.args.depth - 1) (g.S.Store.cells c.args.store.now) c.args.added c.args.draft.now c.leave.new.self c.walk.new.draft c.walk.new.draft c.args.n c.in-Some.m
    c.in_ok-v.v c.in_err-least-in-Some.field-0.0 p.0 c.from_residual-in_err-least-in-Some.result s c.in_ok-v.ensures c.in-Some.ensures (left_one _ _ _ c.leave.ensures.gone c.leave.ensures.made) c.in_err-least-in-Some.ensures p.1 p.2

pub copy_over-requires : goal.copy_over-requires
copy_over-requires g t c =
    let h = deeper c.args.depth c.in_ok-v.v.left c.in-Some.m c.in-Some.ensures in
    let m = c.in_ok-least-in-Some.ensures in
    let few = m.grew.few in
    let few_out = m.grew.few_out in
    let left = m.good in
    let f = left_one c.args.draft.now _ _ c.leave.ensures.gone c.leave.ensures.made in
    let made = f.grew.few in
    let gone = f.grew.few_out in
    search rules

pub returns-in_err-side-in-Some : goal.returns-in_err-side-in-Some
returns-in_err-side-in-Some g t c =
    let p = err_from_is_err_and c.from_residual-in_err-side-in-Some.result c.from_residual-in_err-side-in-Some.ensures.1 in
    let h = deeper c.args.depth c.in_ok-v.v.left c.in-Some.m c.in-Some.ensures in
    let s : c.args.depth ≡ suc (c.args.depth - 1) = omega (arith, h) in
    walk_uncopied c.args.depth (c.args.depth - 1) (g.S.Store.cells c.args.store.now) c.args.added c.args.draft.now c.leave.new.self c.walk.new.draft c.copy_over.new.draft c.args.n c.in-Some.m
    c.in_ok-v.v c.in_ok-least-in-Some.least c.in_ok-least-in-Some.left c.in_err-side-in-Some.field-0.0 p.0 c.from_residual-in_err-side-in-Some.result s c.in_ok-v.ensures c.in-Some.ensures (left_one _ _ _ c.leave.ensures.gone c.leave.ensures.made)
    c.in_ok-least-in-Some.ensures c.in_err-side-in-Some.ensures p.1 p.2

pub returns-in_ok-side-in-Some : goal.returns-in_ok-side-in-Some
returns-in_ok-side-in-Some g t c =
    let h = deeper c.args.depth c.in_ok-v.v.left c.in-Some.m c.in-Some.ensures in
    let s : c.args.depth ≡ suc (c.args.depth - 1) = omega (arith, h) in
    let r = walk_done c.args.depth (c.args.depth - 1) (g.S.Store.cells c.args.store.now) c.args.added c.args.draft.now c.leave.new.self c.walk.new.draft c.copy_over.new.draft c.args.n c.in-Some.m
    c.in_ok-v.v c.in_ok-least-in-Some.least c.in_ok-least-in-Some.left c.in_ok-side-in-Some.side s c.in_ok-v.ensures c.in-Some.ensures
    (left_one _ _ _ c.leave.ensures.gone c.leave.ensures.made) c.in_ok-least-in-Some.ensures c.in_ok-side-in-Some.ensures in
    search rules
