use Rattle.std.proofs.Common.{◌≡◌, ◌<◌, ◌≤◌, true, false, length, Some, sym, ap, ◌∙◌, arith}
use Rattle.store.proofs.Insides.{count_is}
use Rattle.store.specs.Nodes.{plain}
use Rattle.sessions.specs.Writings.{Rewritten}
use Rattle.sessions.specs.Making.{can_make, every_node, made_mark}
use Rattle.sessions.proofs.Makes.{not_made, made, refused_size, made_size}
use Rattle.sessions.proofs.Sweeping.{upto, next_turn, sweep_starts, sweep_writes, sweep_ends, write_taken}
use Rattle.sessions.proofs.pool.make.Given.{Over}
use Rattle.sessions.proofs.pool.make.Goals.{After-write}
use Rattle.sessions.proofs.pool.make.Goals as goal

pub returns-then-not-can_make : goal.returns-then-not-can_make
returns-then-not-can_make g c =
    let cs = g.S.Store.cells c.args.store.now in
    let n : c.count-count.result ≡ length cs = c.count-count.ensures ∙ count_is cs in
    let e : can_make (length cs) ≡ false = ap can_make (sym n) ∙ sym c.can_make.ensures ∙ c.if-not-can_make.true in
    record { value = refused_size _ _ n e; cells = not_made cs g.S.Key.Key.blank e; keeps = λ f. f }

pub returns-in_err-write : goal.returns-in_err-write
returns-in_err-write g c =
    let ds = g.S.Store.cells c.loop-n.store in
    let some : 0 < c.loop-n.n = omega arith in
    let h : c.loop-n.n ≤ length ds = omega (arith, c.loop-n.invariant.0.count, count_is (g.S.Store.cells c.args.store.now)) in
    let z : ⊥ = write_taken ds c.loop-n.n _ some h c.in_err-write.ensures.value in
    elim z [ ]

pub loop-n-init : goal.loop-n-init
loop-n-init g c = (sweep_starts (every_node g.S.Key.Key.blank) 0 _ (λ n ne le. let z : ⊥ = omega (arith, ne) in elim z [ ]), λ f. f)

-- node n is written as the making writes it
turn : (g : Over) (c : After-write g) → Rewritten (upto c.loop-n.n (every_node g.S.Key.Key.blank)) (g.S.Store.cells c.args.store.now) (g.S.Store.cells c.write.new.self)
turn g c =
    let cs = g.S.Store.cells c.args.store.now in
    let filler = g.S.Key.Key.blank in
    let some : 0 < c.loop-n.n = omega arith in
    let h : c.loop-n.n ≤ length cs = omega (arith, count_is cs) in
    let v : c.plain.result ≡ plain (made_mark c.loop-n.n) filler filler =
    c.plain.ensures ∙ ap (λ k. plain c.made_mark.result k k) c.filler-filler.ensures ∙ ap (λ m. plain m filler filler) c.made_mark.ensures in
    sweep_writes (every_node filler) c.loop-n.n some cs _ c.loop-n.invariant.0 _ _ h (ap Some (sym v)) c.write.ensures.after

pub loop-n-preserved : goal.loop-n-preserved
loop-n-preserved g c = (
  next_turn (λ n. Rewritten (upto n (every_node g.S.Key.Key.blank)) (g.S.Store.cells c.args.store.now) (g.S.Store.cells c.write.new.self)) c.loop-n.n
      (turn g (goal.at.loop-n-preserved g c).After-write),
  λ f. c.write.ensures.keeps (c.loop-n.invariant.1 f),
)

pub returns-in_ok-write : goal.returns-in_ok-write
returns-in_ok-write g c =
    let cs = g.S.Store.cells c.args.store.now in
    let e : can_make (length cs) ≡ true = ap can_make (sym (c.count-count.ensures ∙ count_is cs)) ∙ sym c.can_make.ensures ∙ c.if-not-can_make.false in
    let long : length cs ≤ c.loop-n.n = omega (arith, count_is cs) in
    record {
      value = made_size (length cs) e;
      cells = made cs g.S.Key.Key.blank _ e (sweep_ends (every_node g.S.Key.Key.blank) c.loop-n.n cs _ long (turn g (goal.at.returns-in_ok-write g c).After-write));
      keeps = λ f. c.write.ensures.keeps (c.loop-n.invariant.1 f);
    }
