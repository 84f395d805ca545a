use Rattle.std.proofs.Common.{◌-◌, ◌<◌, ◌≤◌, length, Ok, sym, refl, ap, ◌∙◌, subst, arith}
use Rattle.store.proofs.Insides.{count_is}
use Rattle.sessions.specs.Writings.{Rewritten}
use Rattle.sessions.specs.Waiting.{waiting_for, release}
use Rattle.sessions.proofs.Sweeping.{upto, next_turn, sweep_starts, sweep_ends, write_taken}
use Rattle.sessions.proofs.Releases.{release_starts, release_reads, release_passes, release_leaves, release_writes}
use Rattle.sessions.proofs.waiting.release.Given.{Over}
use Rattle.sessions.proofs.waiting.release.Goals.{In_default, Joined-is_in, then-is_in+in_ok-write, else-is_in}
use Rattle.sessions.proofs.waiting.release.Goals as goal

pub loop-n-init : goal.loop-n-init
loop-n-init g c =
    let cs = g.S.Store.cells c.args.store.now in
    (sweep_starts (release c.args.session cs) 32 cs (λ n ne le. release_starts c.args.session cs n le), λ f. f)

pub returns-in_err-node : goal.returns-in_err-node
returns-in_err-node g c =
    let cs = g.S.Store.cells c.args.store.now in
    let h : c.loop-n.n ≤ length cs = omega (arith, count_is cs) in
    let z : ⊥ = release_reads c.args.session cs _ c.loop-n.n c.loop-n.auto.n h c.loop-n.invariant.0 _ c.requires c.in_err-node.ensures in
    elim z [ ]

pub returns-in_err-write : goal.returns-in_err-write
returns-in_err-write g c =
    let cs = g.S.Store.cells c.args.store.now in
    let ds = g.S.Store.cells c.loop-n.store in
    let some : 0 < c.loop-n.n = omega arith in
    let h : c.loop-n.n ≤ length ds = omega (arith, c.loop-n.invariant.0.count, count_is cs) in
    let z : ⊥ = write_taken ds c.loop-n.n _ some h c.in_err-write.ensures.value in
    elim z [ ]

-- after its turn node n is released, as it waits for no session
passed : (g : Over) (c : In_default g) → Rewritten (upto c.loop-n.n (release c.args.session (g.S.Store.cells c.args.store.now))) (g.S.Store.cells c.args.store.now) (g.S.Store.cells c.loop-n.store)
passed g c =
    let cs = g.S.Store.cells c.args.store.now in
    let h : c.loop-n.n ≤ length cs = omega (arith, count_is cs) in
    release_passes c.args.session cs _ c.loop-n.n c.loop-n.auto.n h c.loop-n.invariant.0 (ap Ok (sym c.in_default.is) ∙ c.in_ok-node.ensures)

-- and as it waits for some
turned : (g : Over) (c : Joined-is_in g) →
    Rewritten (upto c.loop-n.n (release c.args.session (g.S.Store.cells c.args.store.now))) (g.S.Store.cells c.args.store.now) (g.S.Store.cells c.if-is_in.store)
    × (g.S.Store.fit c.args.store.now → g.S.Store.fit c.if-is_in.store)
turned g c =
    let cs = g.S.Store.cells c.args.store.now in
    let h : c.loop-n.n ≤ length cs = omega (arith, count_is cs) in
    let e = ap Ok (sym c.in-Some.is) ∙ c.in_ok-node.ensures in
    elim c.if-is_in.branch [
      | then-is_in+in_ok-write w ↦ (
        subst (λ s. Rewritten (upto c.loop-n.n (release c.args.session cs)) cs (g.S.Store.cells s)) (sym w.store-is)
            (release_writes c.args.session cs _ c.loop-n.n c.loop-n.auto.n h c.loop-n.invariant.0 _ _ c.in-Some.node e (sym w.if-is_in.ensures)
            (w.waiting.ensures ∙ ap (λ x. waiting_for x c.in-Some.node) w.taken_from-others.ensures) w.write.ensures.after),
        λ f. subst (λ s. g.S.Store.fit s) (sym w.store-is) (w.write.ensures.keeps (c.loop-n.invariant.1 f)),
      )
      | else-is_in w ↦ (
        subst (λ s. Rewritten (upto c.loop-n.n (release c.args.session cs)) cs (g.S.Store.cells s)) (sym w.store-is)
            (release_leaves c.args.session cs _ c.loop-n.n c.loop-n.auto.n h c.loop-n.invariant.0 c.in-Some.node e (sym w.if-is_in.ensures)),
        λ f. subst (λ s. g.S.Store.fit s) (sym w.store-is) (c.loop-n.invariant.1 f),
      )
    ]

pub loop-n-preserved-in_default : goal.loop-n-preserved-in_default
loop-n-preserved-in_default g c =
    let cs = g.S.Store.cells c.args.store.now in (
      next_turn (λ n. Rewritten (upto n (release c.args.session cs)) cs (g.S.Store.cells c.loop-n.store)) c.loop-n.n (passed g (goal.at.loop-n-preserved-in_default g c).In_default),
      c.loop-n.invariant.1,
    )

pub loop-n-preserved : goal.loop-n-preserved
loop-n-preserved g c =
    let cs = g.S.Store.cells c.args.store.now in
    let t = turned g (goal.at.loop-n-preserved g c).Joined-is_in in
    (next_turn (λ n. Rewritten (upto n (release c.args.session cs)) cs (g.S.Store.cells c.if-is_in.store)) c.loop-n.n t.0, t.1)

pub returns-in_default : goal.returns-in_default
returns-in_default g c =
    let cs = g.S.Store.cells c.args.store.now in
    let long : length cs ≤ c.loop-n.n = omega (arith, count_is cs) in
    record {
      value = refl;
      cells = sweep_ends (release c.args.session cs) c.loop-n.n cs _ long (passed g (goal.at.returns-in_default g c).In_default);
      keeps = c.loop-n.invariant.1;
    }

pub returns-after-is_in : goal.returns-after-is_in
returns-after-is_in g c =
    let cs = g.S.Store.cells c.args.store.now in
    let long : length cs ≤ c.loop-n.n = omega (arith, count_is cs) in
    let t = turned g (goal.at.returns-after-is_in g c).Joined-is_in in
    record { value = refl; cells = sweep_ends (release c.args.session cs) c.loop-n.n cs _ long t.0; keeps = t.1 }

pub returns : goal.returns
returns g c =
    let cs = g.S.Store.cells c.args.store.now in
    let long : length cs ≤ c.loop-n.n - 1 = omega (arith, count_is cs) in
    record {
      value = refl;
      cells = sweep_ends (release c.args.session cs) (c.loop-n.n - 1) cs _ long c.loop-n.invariant.0;
      keeps = c.loop-n.invariant.1;
    }
