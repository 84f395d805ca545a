use Rattle.std.proofs.Common.{arith}
use Rattle.std.proofs.lemmas.Result.{MatchResult-at_ok}
use Rattle.edits.specs.declared.fault.Doing.TheVariants.{Copy}
use Rattle.edits.proofs.Rotating.{during_ok}
use Rattle.search.specs.Frees.{found_of}
use Rattle.grafts.proofs.Asking.{few_free, free_found}
use Rattle.grafts.proofs.asks.free_nodes.Goals as goal

pub returns-then-len-want : goal.returns-then-len-want
returns-then-len-want g c =
    let f = MatchResult-at_ok _ _ c.in_ok-found.found (during_ok Copy c.find_free.result _ c.in_ok-found.ensures) c.find_free.ensures in
    few_free (g.S.Store.cells c.args.store.now) c.args.want (found_of c.in_ok-found.found) f.0 (omega (arith, c.len.ensures.value))

pub returns : goal.returns
returns g c =
    let f = MatchResult-at_ok _ _ c.in_ok-found.found (during_ok Copy c.find_free.result _ c.in_ok-found.ensures) c.find_free.ensures in
    free_found (g.S.Store.cells c.args.store.now) c.args.want c.in_ok-found.found c.requires f.0 f.1 (omega (arith, c.len.ensures.value))
