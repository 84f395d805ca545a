use Rattle.std.proofs.lemmas.Result.{err_from_is_err_and}
use Rattle.drafts.proofs.Seeing.{both_first, both_second, both_done}
use Rattle.drafts.proofs.draft.Draft.see_both.Goals as goal

pub returns-in_err-left : goal.returns-in_err-left
returns-in_err-left g c =
    let p = err_from_is_err_and c.from_residual.result c.from_residual.ensures.1 in
    let q = both_first c.args.self.now _ _ _ _ _ _ c.in_err-left.ensures.value p.1 p.2 in
    record { value = q.0; good = q.1 }

pub returns-in_err-right : goal.returns-in_err-right
returns-in_err-right g c =
    let p = err_from_is_err_and c.from_residual-in_err-right.result c.from_residual-in_err-right.ensures.1 in
    let q = both_second c.args.self.now _ _ _ _ _ _ _ c.in_ok-left.ensures.value c.in_err-right.ensures.value p.1 p.2 in
    record { value = q.0; good = q.1 }

pub returns : goal.returns
returns g c = record {
  value = both_done _ _ _ _ _ c.in_ok-left.ensures.value c.in_ok-right.ensures.value;
  good = (c.in_ok-left.ensures.good, c.in_ok-right.ensures.good);
}
