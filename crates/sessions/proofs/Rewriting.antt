-- How the cells of a store follow from single writes.
use Rattle.std.proofs.Common.{◌≡◌, ℕ, ◌-◌, Bool, true, false, cond, eqb, ◌≢◌, List, length, Some, None, Ok, Err, sym, refl, ap, ◌∙◌, subst, inl, inr, arith}
use Rattle.std.proofs.lemmas.List.{get_or-set_same}
use Rattle.std.proofs.lemmas.Bool.{eqb-true, eqb-false}
use Rattle.store.specs.declared.node.Node.{Node}
use Rattle.store.specs.declared.fault.Function.TheVariants.{Write}
use Rattle.store.specs.declared.fault.StoreFault.{StoreFault}
use Rattle.store.specs.Faults.{outside}
use Rattle.store.specs.Cells.{Cell, shut, readable, cell_at, write_answer, Written}
use Rattle.store.proofs.Insides.{below, numbered, answered, refused, replaced_inside}
use Rattle.store.proofs.Writes.{written_length, written_other, written_outside}
use Rattle.sessions.specs.Writings.{Writing, nothing_written, only, CellAfter, Rewritten}

module _ {K : Type 0} where
  pub nothing_rewritten : (cs : List (Cell K)) → Rewritten nothing_written cs cs
  nothing_rewritten cs = record { count = refl; each = λ n e. refl }

  -- the cell of the node that was written
  cell_written : (cs ds : List (Cell K)) (n : ℕ) (v : Node K) (c : Cell K) → outside n (length cs) ≡ false → Written cs n v ds → CellAfter (Some v) c (cell_at ds n)
  unfolding Written
  cell_written cs ds n v c e (inl w) =
      inl (ap (λ l. cell_at l n) (w ∙ replaced_inside cs n (readable v) e) ∙ get_or-set_same cs (n - 1) (readable v) (shut 0) (below n (length cs) e))
  cell_written cs ds n v c e (inr w) =
      inr (ap (λ l. cell_at l n) (w ∙ replaced_inside cs n (shut v.mark) e) ∙ get_or-set_same cs (n - 1) (shut v.mark) (shut 0) (below n (length cs) e))

  -- one write more
  pub rewritten_then : (u w : Writing K) (cs ds es : List (Cell K)) (m : ℕ) (v : Node K) → Rewritten w cs ds → outside m (length ds) ≡ false →
      Written ds m v es → u m ≡ Some v → ((n : ℕ) → n ≢ m → u n ≡ w n) → Rewritten u cs es
  rewritten_then u w cs ds es m v was in-range h here others = record {
    count = written_length ds m v es h ∙ was.count;
    each = λ n e. by_node n e (eqb n m) refl;
  }
    where
      by_node : (n : ℕ) → outside n (length cs) ≡ false → (b : Bool) → eqb n m ≡ b → CellAfter (u n) (cell_at cs n) (cell_at es n)
      by_node n e true t =
          let same : n ≡ m = eqb-true n m t in
          subst (λ k. CellAfter (u k) (cell_at cs k) (cell_at es k)) (sym same)
          (subst (λ o. CellAfter o (cell_at cs m) (cell_at es m)) (sym here) (cell_written ds es m v (cell_at cs m) in-range h))
      by_node n e false t =
          let ne : n ≢ m = eqb-false n m t in
          let a = numbered n (length cs) e in
          let b = numbered m (length ds) in-range in
          let apart : n - 1 ≢ m - 1 = omega (arith, a.0, b.0, ne) in
          subst (λ d. CellAfter (u n) (cell_at cs n) d) (sym (written_other ds m (n - 1) v es apart h))
          (subst (λ o. CellAfter o (cell_at cs n) (cell_at ds n)) (sym (others n ne)) (was.each n e))

  only_here : (m : ℕ) (v : Node K) (b : Bool) → eqb m m ≡ b → cond b (Some v) None ≡ Some v
  only_here m v true t = refl
  only_here m v false t = let ne : m ≢ m = eqb-false m m t in elim (ne refl) [ ]

  only_other : (v : Node K) (n m : ℕ) (b : Bool) → eqb n m ≡ b → n ≢ m → cond b (Some v) None ≡ None
  only_other v n m true t ne = elim (ne (eqb-true n m t)) [ ]
  only_other v n m false t ne = refl

  -- one write that was taken
  pub only_rewritten : (cs ds : List (Cell K)) (m : ℕ) (v : Node K) → Ok tt ≡ write_answer cs m → Written cs m v ds → Rewritten (only m v) cs ds
  unfolding write_answer
  only_rewritten cs ds m v e h =
      rewritten_then (only m v) nothing_written cs cs ds m v (nothing_rewritten cs) (answered Write m (length cs) (Ok tt) tt e) h
      (only_here m v (eqb m m) refl) (λ n ne. only_other v n m (eqb n m) refl ne)

  -- one write that was refused
  pub none_rewritten : (cs ds : List (Cell K)) (m : ℕ) (v : Node K) (x : StoreFault) → Err x ≡ write_answer cs m → Written cs m v ds → Rewritten nothing_written cs ds
  unfolding write_answer
  none_rewritten cs ds m v x e h =
      subst (λ l. Rewritten nothing_written cs l) (sym (written_outside cs m v ds (refused Write m (length cs) x tt e) h)) (nothing_rewritten cs)
