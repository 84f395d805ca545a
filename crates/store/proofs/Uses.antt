-- What code over any store learns from an answer, and what is answered after a write.
use Rattle.std.proofs.Common.{◌≡◌, ℕ, ◌-◌, Bool, true, false, ◌≢◌, List, length, Ok, Err, Result, sym, refl, ap, ◌∙◌, arith}
use Rattle.std.proofs.lemmas.List.{get_or-set_same}
use Rattle.store.specs.declared.node.Node.{Node}
use Rattle.store.specs.declared.fault.Function.TheVariants.{Mark, Read, Write}
use Rattle.store.specs.declared.fault.StoreFault.{StoreFault}
use Rattle.store.specs.Faults.{outside}
use Rattle.store.specs.Cells.{Cell, shut, readable, cell_at, mark_of, shown, mark_answer, read_answer, write_answer, Written}
use Rattle.store.specs.Fits.{ShutFree}
use Rattle.store.proofs.Insides.{numbered, below, answered, answered_is, mark_inside, read_inside, write_inside}
use Rattle.store.proofs.Writes.{written_length, written_mark, written_readable, written_other, written_outside}

never_refused : {T : Type 0} (r : Result T StoreFault) (x : T) (e : StoreFault) → r ≡ Ok x → Err e ≡ r → ⊥
never_refused r x e h f = let z : ◌≡◌ {A = ℕ} 0 1 = cc in omega arith

module _ {K : Type 0} where
  -- what is answered lies inside
  pub mark_answered : (cs : List (Cell K)) (n m : ℕ) → Ok m ≡ mark_answer cs n → outside n (length cs) ≡ false
  unfolding mark_answer
  mark_answered cs n m h = answered Mark n (length cs) (Ok (mark_of (cell_at cs n))) m h

  pub read_answered : (cs : List (Cell K)) (n : ℕ) (v : Node K) → Ok v ≡ read_answer cs n → outside n (length cs) ≡ false
  unfolding read_answer
  read_answered cs n v h = answered Read n (length cs) (shown n (cell_at cs n)) v h

  pub write_answered : (cs : List (Cell K)) (n : ℕ) → Ok tt ≡ write_answer cs n → outside n (length cs) ≡ false
  unfolding write_answer
  write_answered cs n h = answered Write n (length cs) (Ok tt) tt h

  -- the cell that an answer is of
  pub mark_is : (cs : List (Cell K)) (n m : ℕ) → Ok m ≡ mark_answer cs n → m ≡ mark_of (cell_at cs n)
  unfolding mark_answer
  mark_is cs n m h = answered_is Mark n (length cs) m (mark_of (cell_at cs n)) h

  by_cell : (n : ℕ) (c : Cell K) (v : Node K) → Ok v ≡ shown n c → c ≡ readable v
  by_cell n (shut m) v h = let z : ◌≡◌ {A = ℕ} 0 1 = cc in let w : ⊥ = omega arith in elim w [ ]
  by_cell n (readable u) v h = let e : v ≡ u = cc in ap readable (sym e)

  pub read_is : (cs : List (Cell K)) (n : ℕ) (v : Node K) → Ok v ≡ read_answer cs n → cell_at cs n ≡ readable v
  read_is cs n v h = by_cell n (cell_at cs n) v (h ∙ read_inside cs n (read_answered cs n v h))

  -- inside, neither mark nor write is refused
  pub mark_taken : (cs : List (Cell K)) (n : ℕ) (e : StoreFault) → outside n (length cs) ≡ false → Err e ≡ mark_answer cs n → ⊥
  mark_taken cs n e i h = never_refused (mark_answer cs n) (mark_of (cell_at cs n)) e (mark_inside cs n i) h

  pub write_taken : (cs : List (Cell K)) (n : ℕ) (e : StoreFault) → outside n (length cs) ≡ false → Err e ≡ write_answer cs n → ⊥
  write_taken cs n e i h = never_refused (write_answer cs n) tt e (write_inside cs n i) h

  -- a readable cell is read
  pub read_of : (cs : List (Cell K)) (n : ℕ) (v : Node K) → outside n (length cs) ≡ false → cell_at cs n ≡ readable v → read_answer cs n ≡ Ok v
  read_of cs n v i e = read_inside cs n i ∙ ap (shown n) e

  module _ (cs : List (Cell K)) (n : ℕ) (v : Node K) (ds : List (Cell K)) (w : Written cs n v ds) where
    -- the same numbers are outside before and after
    pub outside_after : (m : ℕ) → outside m (length ds) ≡ outside m (length cs)
    outside_after m = ap (outside m) (written_length cs n v ds w)

    -- after the write, its own node
    pub mark_after : outside n (length cs) ≡ false → mark_answer ds n ≡ Ok v.mark
    mark_after i = mark_inside ds n (outside_after n ∙ i) ∙ ap Ok (written_mark cs n v ds i w)

    by_place : (b : Bool) (m : ℕ) → outside n (length cs) ≡ b → (m ≡ n → ⊥) → (m ≡ 0 → ⊥) → cell_at ds m ≡ cell_at cs m
    by_place true m e ne some = ap (λ l. cell_at l m) (written_outside cs n v ds e w)
    by_place false m e ne some =
        let p = numbered n (length cs) e in
        let far : m - 1 ≢ n - 1 = λ h. ne (omega (arith, h, p.0)) in
        written_other cs n (m - 1) v ds far w

    -- and every other
    pub cell_elsewhere : (m : ℕ) → (m ≡ n → ⊥) → (m ≡ 0 → ⊥) → cell_at ds m ≡ cell_at cs m
    cell_elsewhere m ne some = by_place (outside n (length cs)) m refl ne some

    by_mark : (b : Bool) (m : ℕ) → outside m (length cs) ≡ b → (m ≡ n → ⊥) → mark_answer ds m ≡ mark_answer cs m
    unfolding mark_answer
    by_mark true m e ne = rw (outside_after m, e)
    by_mark false m e ne = rw (outside_after m, e) (ap (λ c. Ok (mark_of c)) (cell_elsewhere m ne (numbered m (length cs) e).0))

    pub mark_elsewhere : (m : ℕ) → (m ≡ n → ⊥) → mark_answer ds m ≡ mark_answer cs m
    mark_elsewhere m ne = by_mark (outside m (length cs)) m refl ne

    by_read : (b : Bool) (m : ℕ) → outside m (length cs) ≡ b → (m ≡ n → ⊥) → read_answer ds m ≡ read_answer cs m
    unfolding read_answer
    by_read true m e ne = rw (outside_after m, e)
    by_read false m e ne = rw (outside_after m, e) (ap (shown m) (cell_elsewhere m ne (numbered m (length cs) e).0))

    pub read_elsewhere : (m : ℕ) → (m ≡ n → ⊥) → read_answer ds m ≡ read_answer cs m
    read_elsewhere m ne = by_read (outside m (length cs)) m refl ne

    -- in a fit store a node that is in use can be read back
    pub read_after : outside n (length cs) ≡ false → ShutFree ds → (v.mark ≡ 0 → ⊥) → read_answer ds n ≡ Ok v
    read_after i free used =
        let e = written_readable cs n v ds i free used w in
        read_of ds n v (outside_after n ∙ i) (ap (λ l. cell_at l n) e ∙ get_or-set_same cs (n - 1) (readable v) (shut 0) (below n (length cs) i))
