-- What a guard's cells answer, from what the cells below it answer.
use Rattle.std.proofs.Common.{◌≡◌, ℕ, ◌-◌, Bool, true, false, cond, eqb, ◌≢◌, ◌⊎◌, List, length, set, Ok, Err, Result, sym, refl, ap, ◌∙◌, inl, inr}
use lib.ListN.{length-map, get_or-map}
use Rattle.std.proofs.lemmas.List.{map-set}
use Rattle.std.proofs.lemmas.Bool.{eqb-true, eq-eqb, ne_eqb}
use Rattle.store.specs.declared.node.Node.{Node}
use Rattle.store.specs.declared.fault.StoreFault.{StoreFault}
use Rattle.store.specs.declared.fault.Function.TheVariants.{Read}
use Rattle.store.specs.declared.fault.Cause.TheVariants.{Outside, Closed}
use Rattle.store.specs.Faults.{fault_at, outside}
use Rattle.store.specs.Cells.{Cell, shut, readable, cell_at, mark_of, shown, count_answer, mark_answer, read_answer, write_answer, replaced, Written, guard_cell, guarded}

module _ {K : Type 0} where
  guarded_length : (cs : List (Cell K)) → length (guarded cs) ≡ length cs
  guarded_length cs = length-map cs guard_cell

  guarded_at : (cs : List (Cell K)) (n : ℕ) → cell_at (guarded cs) n ≡ guard_cell (cell_at cs n)
  guarded_at cs n = get_or-map guard_cell cs (n - 1) (shut 0)

  mark_test : (b : Bool) (v : Node K) → eqb v.mark 0 ≡ b → mark_of (cond b (shut 0) (readable v)) ≡ v.mark
  mark_test true v e = sym (eqb-true v.mark 0 e)
  mark_test false v e = refl

  mark_cell : (c : Cell K) → mark_of (guard_cell c) ≡ mark_of c
  mark_cell (shut m) = refl
  mark_cell (readable v) = mark_test (eqb v.mark 0) v refl

  pub count_guarded : (cs : List (Cell K)) → count_answer (guarded cs) ≡ count_answer cs
  unfolding count_answer
  count_guarded cs = guarded_length cs

  pub mark_guarded : (cs : List (Cell K)) (n : ℕ) → mark_answer (guarded cs) n ≡ mark_answer cs n
  unfolding mark_answer
  mark_guarded cs n = rw (guarded_length cs, guarded_at cs n, mark_cell (cell_at cs n))

  pub write_guarded : (cs : List (Cell K)) (n : ℕ) → write_answer (guarded cs) n ≡ write_answer cs n
  unfolding write_answer
  write_guarded cs n = rw (guarded_length cs)

  -- what the guard makes of an answer from below
  abbrev pub guard_answer : ℕ → Result (Node K) StoreFault → Result (Node K) StoreFault
  guard_answer n (Err e) = Err e
  guard_answer n (Ok v) = cond (eqb v.mark 0) (Err (fault_at Read n Closed)) (Ok v)

  shown_test : (b : Bool) (v : Node K) (n : ℕ) → shown n (cond b (shut 0) (readable v)) ≡ cond b (Err (fault_at Read n Closed)) (Ok v)
  shown_test true v n = refl
  shown_test false v n = refl

  shown_cell : (c : Cell K) (n : ℕ) → shown n (guard_cell c) ≡ guard_answer n (shown n c)
  shown_cell (shut m) n = refl
  shown_cell (readable v) n = shown_test (eqb v.mark 0) v n

  by_side : (b : Bool) (c : Cell K) (n : ℕ) →
      cond b (Err (fault_at Read n Outside)) (shown n (guard_cell c)) ≡ guard_answer n (cond b (Err (fault_at Read n Outside)) (shown n c))
  by_side true c n = refl
  by_side false c n = shown_cell c n

  pub read_guarded : (cs : List (Cell K)) (n : ℕ) → read_answer (guarded cs) n ≡ guard_answer n (read_answer cs n)
  unfolding read_answer
  read_guarded cs n = rw (guarded_length cs, guarded_at cs n) (by_side (outside n (length cs)) (cell_at cs n) n)

  pub read_closed : (cs : List (Cell K)) (n : ℕ) (v : Node K) → Ok v ≡ read_answer cs n → v.mark ≡ 0 → Err (fault_at Read n Closed) ≡ read_answer (guarded cs) n
  read_closed cs n v h e = rw (read_guarded cs n, ← h, eq-eqb v.mark 0 e)

  pub read_passed : (cs : List (Cell K)) (n : ℕ) (v : Node K) → Ok v ≡ read_answer cs n → v.mark ≢ 0 → Ok v ≡ read_answer (guarded cs) n
  read_passed cs n v h used = rw (read_guarded cs n, ← h, ne_eqb v.mark 0 used)

  pub read_failed : (cs : List (Cell K)) (n : ℕ) (x : StoreFault) → Err x ≡ read_answer cs n → Err x ≡ read_answer (guarded cs) n
  read_failed cs n x h = rw (read_guarded cs n, ← h)

  by_place : (b : Bool) (cs : List (Cell K)) (i : ℕ) (c : Cell K) → guarded (cond b cs (set cs i c)) ≡ cond b (guarded cs) (set (guarded cs) i (guard_cell c))
  by_place true cs i c = refl
  by_place false cs i c = map-set guard_cell cs i c

  replaced_guarded : (cs : List (Cell K)) (n : ℕ) (c : Cell K) → guarded (replaced cs n c) ≡ replaced (guarded cs) n (guard_cell c)
  replaced_guarded cs n c = rw (guarded_length cs) (by_place (outside n (length cs)) cs (n - 1) c)

  by_mark : (b : Bool) (cs : List (Cell K)) (n : ℕ) (v : Node K) (ds : List (Cell K)) → eqb v.mark 0 ≡ b → ds ≡ replaced cs n (cond b (shut 0) (readable v)) →
      (ds ≡ replaced cs n (readable v)) ⊎ (ds ≡ replaced cs n (shut v.mark))
  by_mark true cs n v ds e h = inr (h ∙ ap (λ m. replaced cs n (shut m)) (sym (eqb-true v.mark 0 e)))
  by_mark false cs n v ds e h = inl h

  pub written_guarded : (cs : List (Cell K)) (n : ℕ) (v : Node K) (ds : List (Cell K)) → Written cs n v ds → Written (guarded cs) n v (guarded ds)
  unfolding Written
  written_guarded cs n v ds (inl e) = by_mark (eqb v.mark 0) (guarded cs) n v (guarded ds) refl (ap guarded e ∙ replaced_guarded cs n (readable v))
  written_guarded cs n v ds (inr e) = inr (ap guarded e ∙ replaced_guarded cs n (shut v.mark))

-- all that the guard's four functions need
pub ruleset guard_answers = (count_guarded, mark_guarded, read_closed, read_passed, read_failed, write_guarded, written_guarded)
