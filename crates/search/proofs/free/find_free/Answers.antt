use Rattle.std.proofs.Common.{◌≡◌, ◌+◌, ◌-◌, min, refl, ap, ◌∙◌, subst, arith}
use Rattle.store.proofs.Insides.{count_is}
use Rattle.stacks.specs.Held.{held}
use Rattle.search.specs.Frees.{pool_end, Gathers}
use Rattle.search.proofs.Gathering.{found_all}
use Rattle.search.proofs.free.find_free.Goals as goal

pub gather-requires-clause-pool : goal.gather-requires-clause-pool
gather-requires-clause-pool g c =
    let cs = g.S.Store.cells c.args.store.now in
    let m : c.min-end.result ≡ pool_end cs = c.min-end.ensures ∙ ap (λ n. min n 65535) (c.count.ensures ∙ count_is cs) in
    (omega (arith, c.start_at-start.ensures.low), λ h. omega (arith, m))

pub gather-requires-2-clause-pool : goal.gather-requires-2-clause-pool
gather-requires-2-clause-pool g c =
    let cs = g.S.Store.cells c.args.store.now in
    let m : c.min-end.result ≡ pool_end cs = c.min-end.ensures ∙ ap (λ n. min n 65535) (c.count.ensures ∙ count_is cs) in
    (omega arith, λ h. let l = c.start_at-start.ensures.high h in omega (arith, m))

pub returns : goal.returns
returns g c =
    let cs = g.S.Store.cells c.args.store.now in
    let m : c.min-end.result ≡ pool_end cs = c.min-end.ensures ∙ ap (λ n. min n 65535) (c.count.ensures ∙ count_is cs) in
    let e = subst (λ ns. Gathers cs c.start_at-start.result (c.min-end.result + 1 - c.start_at-start.result) c.args.want ns (held c.gather.new.numbers)) c.new-numbers.ensures c.in_ok-gather.ensures.found in (
      found_all cs (c.min-end.result + 1) c.start_at-start.result c.args.want _ _ (ap (λ n. n + 1) m) c.start_at-start.ensures.low c.start_at-start.ensures.high e c.in_ok-gather-2.ensures.found,
      refl,
    )
