use Rattle.std.proofs.Common.{arith}
use Rattle.std.proofs.lemmas.Result.{err_from_is_err_and}
use Rattle.drafts.specs.Drafts.{seen_of, parts_of}
use Rattle.drafts.proofs.Turning.{over_stop, over_once, over_twice}
use Rattle.drafts.proofs.turns.Tilt.turn_over.Goals as goal

pub returns-in_err-inner : goal.returns-in_err-inner
returns-in_err-inner g c =
    let p = err_from_is_err_and c.from_residual.result c.from_residual.ensures.1 in
    over_stop _ _ _ c.args.draft.now _ (parts_of c.args.draft.now c.args.top.now) _ _ _ c.in_err-inner.ensures.value p.1 p.2

pub returns-then-weight : goal.returns-then-weight
returns-then-weight g c =
    over_once _ _ _ c.args.draft.now _ (seen_of c.args.draft.now c.args.self.now.light) c.in_ok-inner.inner c.in_ok-inner.outer (parts_of c.args.draft.now c.args.top.now)
    c.weight.result c.weight-2.result _ c.in_ok-inner.ensures.value c.weight.ensures.value c.weight-2.ensures.value (omega arith) c.turn_once.ensures

pub returns : goal.returns
returns g c =
    over_twice _ _ _ c.args.draft.now _ (seen_of c.args.draft.now c.args.self.now.light) c.in_ok-inner.inner c.in_ok-inner.outer (parts_of c.args.draft.now c.args.top.now)
    c.weight.result c.weight-2.result _ c.in_ok-inner.ensures.value c.weight.ensures.value c.weight-2.ensures.value (omega arith) c.turn_twice.ensures
