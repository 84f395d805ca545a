use Rattle.std.proofs.Common.{◌≡◌, length, Some, refl, ap, ◌∙◌, subst}
use Rattle.std.specs.List.{slice_get}
use Rattle.std.proofs.lemmas.Option.{slice_get_read}
use Rattle.store.specs.Cells.{Written}
use Rattle.store.specs.Faults.{outside}
use Rattle.drafts.specs.Drafts.{gone_of}
use Rattle.commits.proofs.Committing.{writes_none, left_next, writes_length, inside_at, no_refusal}
use Rattle.commits.proofs.writes.let_go.Goals as goal

pub loop-p-init : goal.loop-p-init
loop-p-init g c = record { writes = writes_none (g.S.Store.cells c.args.store.now); keeps = λ f. f }

pub loop-p-preserved : goal.loop-p-preserved
loop-p-preserved g c =
    let i = c.loop-p.invariant in
    let u = c.in_ok-write.ensures in
    let there : slice_get (gone_of c.args.draft.now) c.loop-p.p-index ≡ Some c.p-item.result = rw (← c.gone-p-items.ensures) (slice_get_read _ _ c.loop-p.p-index _ refl c.loop-p-test.true c.p-item.is) in
    record {
      writes = left_next (g.S.Store.cells c.args.store.now) (g.S.Store.cells c.loop-p.store) (g.S.Store.cells c.write.new.self) c.args.sessions _ _ c.p-item.result there i.writes
          (subst (λ v. Written (g.S.Store.cells c.loop-p.store) c.p-item.result.number v (g.S.Store.cells c.write.new.self)) c.waiting.ensures u.after);
      keeps = λ f. u.keeps (i.keeps f);
    }

pub returns-in_err-write : goal.returns-in_err-write
returns-in_err-write g c =
    let there : slice_get (gone_of c.args.draft.now) c.loop-p.p-index ≡ Some c.p-item.result = rw (← c.gone-p-items.ensures) (slice_get_read _ _ c.loop-p.p-index _ refl c.loop-p-test.true c.p-item.is) in
    let o = inside_at (length (g.S.Store.cells c.args.store.now)) _ (gone_of c.args.draft.now) c.p-item.result there c.requires in
    let e = writes_length (g.S.Store.cells c.args.store.now) (g.S.Store.cells c.loop-p.store) _ c.loop-p.invariant.writes in
    absurd (no_refusal (g.S.Store.cells c.loop-p.store) c.p-item.result.number _ (ap (outside c.p-item.result.number) e ∙ o) c.in_err-write.ensures.value)
