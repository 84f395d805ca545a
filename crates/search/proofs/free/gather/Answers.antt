use Rattle.std.proofs.Common.{length, ◌∙◌, ap, arith}
use Rattle.std.proofs.lemmas.List.{length_push}
use Rattle.stacks.specs.Held.{held}
use Rattle.search.proofs.Gathering.{none_yet, next_noted, noted, unnoted, gathered, marked}
use Rattle.search.proofs.free.gather.Goals as goal
use Rattle.search.proofs.free.gather.Goals.{then-branch-eq-FREE, else-branch-eq-FREE}

pub loop-n-init : goal.loop-n-init
loop-n-init g c = record { within = omega arith; few = c.requires.room.1; found = none_yet (g.S.Store.cells c.args.store.now) c.args.from _ }

pub returns-in_err-mark-clause-answered : goal.returns-in_err-mark-clause-answered
returns-in_err-mark-clause-answered g c =
    absurd (marked (g.S.Store.cells c.args.store.now) c.loop-n.n _ (omega (arith, c.requires.pool.0)) (omega (arith, c.requires.pool.1)) c.in_err-mark.ensures)

pub returns-in_err-mark-clause-found : goal.returns-in_err-mark-clause-found
returns-in_err-mark-clause-found g c =
    absurd (marked (g.S.Store.cells c.args.store.now) c.loop-n.n _ (omega (arith, c.requires.pool.0)) (omega (arith, c.requires.pool.1)) c.in_err-mark.ensures)

pub loop-n-preserved : goal.loop-n-preserved
loop-n-preserved g c =
    let i = c.loop-n.invariant in
    let cs = g.S.Store.cells c.args.store.now in
    elim c.if-branch-eq-FREE.branch [
      | then-branch-eq-FREE w ↦
          let e = ap held w.numbers-is ∙ w.push.ensures in
          record {
            within = omega arith;
            few = omega (arith, ap length e, length_push (held c.loop-n.numbers) c.loop-n.n, c.len.ensures.value);
            found = next_noted cs c.args.from c.loop-n.n _ _ _ _ (omega arith) i.found c.in_ok-mark.ensures (noted _ _ c.loop-n.n _ w.if-branch-eq-FREE.true e);
          }
      | else-branch-eq-FREE w ↦
          record {
            within = omega arith;
            few = omega (arith, ap length (ap held w.numbers-is));
            found = next_noted cs c.args.from c.loop-n.n _ _ _ _ (omega arith) i.found c.in_ok-mark.ensures (ap held w.numbers-is ∙ unnoted _ c.loop-n.n _ w.if-branch-eq-FREE.false);
          }
    ]

pub returns-after-loop-n-clause-found : goal.returns-after-loop-n-clause-found
returns-after-loop-n-clause-found g c =
    let i = c.loop-n.invariant in
    gathered (g.S.Store.cells c.args.store.now) c.args.from c.loop-n.n c.args.to c.args.want _ _ (omega arith) i.within i.found i.few (λ _. omega arith)
