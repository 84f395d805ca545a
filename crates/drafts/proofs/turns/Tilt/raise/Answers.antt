use Rattle.std.proofs.lemmas.Result.{err_from_is_err_and}
use Rattle.drafts.specs.Drafts.{seen_of, parts_of}
use Rattle.drafts.proofs.Turning.{raise_stop, raise_done}
use Rattle.drafts.proofs.turns.Tilt.raise.Goals as goal

pub returns-in_err-inner : goal.returns-in_err-inner
returns-in_err-inner g c =
    let p = err_from_is_err_and c.from_residual.result c.from_residual.ensures.1 in
    raise_stop _ _ _ _ c.args.draft.now _ _ (parts_of c.args.draft.now c.args.mid.now) _ _ _ c.in_err-inner.ensures.value p.1 p.2

pub returns : goal.returns
returns g c =
    raise_done _ _ _ _ c.args.draft.now _ _ _ (seen_of c.args.draft.now c.in_ok-inner.inner) (seen_of c.args.draft.now c.in_ok-inner.other)
    (parts_of c.args.draft.now c.args.mid.now) _ c.in_ok-inner.ensures.value c.lift.ensures
