use Rattle.std.proofs.Common.{length, ap, rules}
use Rattle.std.proofs.lemmas.Result.{err_from_is_err_and}
use Rattle.drafts.proofs.Seeing.{fine_old}
use Rattle.walks.proofs.Walking.{left_one, part_stop, part_done}
use Rattle.walks.proofs.walk.part.Goals as goal

pub returns-in_err-right : goal.returns-in_err-right
returns-in_err-right g c =
    let p = err_from_is_err_and c.from_residual.result c.from_residual.ensures.1 in
    let m = part_stop (g.S.Store.cells c.args.store.now) c.args.p.now c.args.lower c.args.upper c.args.draft.now c.leave.new.self c.grow_by.new.draft c.in_err-right.field-0.0 p.0 c.from_residual.result _ c.requires.gone
    (left_one _ _ _ c.leave.ensures.gone c.leave.ensures.made) c.in_err-right.ensures (search rules) p.1 p.2 in
    record { value = m.is; good = m.good }

pub top_over-requires : goal.top_over-requires
top_over-requires g c =
    let m = c.in_ok-right.ensures in
    let few = m.grew.few in
    let few_out = m.grew.few_out in
    let f = left_one c.args.draft.now _ _ c.leave.ensures.gone c.leave.ensures.made in
    let made = f.grew.few in
    let gone = f.grew.few_out in
    let none_made = ap length c.requires.made in
    let none_gone = ap length c.requires.gone in
    let left = fine_old c.grow_by.new.draft in
    let right = m.good in
    search rules

pub returns : goal.returns
returns g c =
    let m = part_done (g.S.Store.cells c.args.store.now) c.args.p.now c.args.lower c.args.upper c.args.draft.now c.leave.new.self c.grow_by.new.draft c.top_over.new.draft c.in_ok-right.right
    c.top_over.result _ _ c.requires.gone (left_one _ _ _ c.leave.ensures.gone c.leave.ensures.made) c.in_ok-right.ensures (search rules) c.top_over.ensures (search rules) in
    record { value = m.is; good = m.good }
