use Rattle.std.proofs.Common.{◌≡◌, ◌+◌, length, ap, ◌∙◌, arith}
use Rattle.std.proofs.lemmas.Result.{err_from_is_err_and}
use Rattle.std.proofs.lemmas.List.{length_push}
use Rattle.stacks.specs.Held.{held}
use Rattle.search.proofs.Searching.{reach_none, reach_full, reach_refused, reach_here, reach_on}
use Rattle.search.proofs.search.+descend.Goals as goal

pub returns-in_default : goal.returns-in_default
returns-in_default g t c = reach_none _ c.args.sought.now (g.S.Store.cells c.args.store.now) _ _ c.args.link c.in_default.ensures

pub returns-then-len-eq-DEEPEST : goal.returns-then-len-eq-DEEPEST
returns-then-len-eq-DEEPEST g t c = reach_full _ c.args.sought.now (g.S.Store.cells c.args.store.now) _ _ c.args.link (omega (arith, c.len.ensures.value))

pub returns-in_err-v : goal.returns-in_err-v
returns-in_err-v g t c =
    let p = err_from_is_err_and c.from_residual.result c.from_residual.ensures.1 in
    reach_refused _ c.args.sought.now (g.S.Store.cells c.args.store.now) _ _ c.args.link c.in-Some.n _ _ _
    (λ z. omega (arith, c.len.ensures.value, c.len.ensures.most)) c.in-Some.ensures c.in_err-v.ensures p.1 p.2

pub returns-in_default-side_at : goal.returns-in_default-side_at
returns-in_default-side_at g t c =
    reach_here _ c.args.sought.now (g.S.Store.cells c.args.store.now) _ _ c.args.link c.in-Some.n c.in_ok-v.v
    (λ z. omega (arith, c.len.ensures.value, c.len.ensures.most)) c.in-Some.ensures c.in_ok-v.ensures c.in_default-side_at.ensures

pub returns : goal.returns
returns g t c =
    let e = c.push.ensures in
    let f : length (held c.push.new.self) ≡ length (held c.args.path.now) + 1 = ap length e ∙ length_push (held c.args.path.now) c.in-Some.n in
    reach_on _ c.args.sought.now (g.S.Store.cells c.args.store.now) _ _ _ _ _ c.args.link c.pick.result c.in-Some.n c.in_ok-v.v c.in-Some-side_at.side _
    (λ z. omega (arith, c.len.ensures.value, c.len.ensures.most)) (omega (arith, f)) c.in-Some.ensures c.in_ok-v.ensures c.in-Some-side_at.ensures
    c.pick.ensures e c.descend.ensures
