-- What follows from a number that lies inside a store, or outside.
use Rattle.std.proofs.Common.{◌≡◌, ℕ, ◌-◌, ◌<◌, ◌≤◌, Bool, true, false, cond, eqb, ltb, List, length, set, Ok, Err, Result, refl, arith}
use Rattle.std.proofs.lemmas.Bool.{or_parts, eqb-false, ltb-false}
use Rattle.store.specs.declared.fault.Function.{Function}
use Rattle.store.specs.declared.fault.Cause.TheVariants.{Outside}
use Rattle.store.specs.declared.fault.StoreFault.{StoreFault}
use Rattle.store.specs.Faults.{fault_at, outside, inside_or}
use Rattle.store.specs.Cells.{Cell, cell_at, mark_of, shown, count_answer, mark_answer, read_answer, write_answer, replaced}

-- a number that is not outside is one of the nodes
pub numbered : (n N : ℕ) → outside n N ≡ false → (n ≡ 0 → ⊥) × (n ≤ N)
numbered n N e = let p = or_parts (eqb n 0) (ltb N n) e in (eqb-false n 0 p.0, ltb-false N n p.1)

pub below : (n N : ℕ) → outside n N ≡ false → n - 1 < N
below n N e = let p = numbered n N e in omega (arith, p.0, p.1)

by_false : {T : Type 0} (b : Bool) (e : StoreFault) (r : Result T StoreFault) (x : T) → Ok x ≡ cond b (Err e) r → b ≡ false
by_false true e r x h = let z : ◌≡◌ {A = ℕ} 0 1 = cc in let w : ⊥ = omega arith in elim w [ ]
by_false false e r x h = refl

-- what is answered lies inside
pub answered : {T : Type 0} (f : Function) (n N : ℕ) (r : Result T StoreFault) (x : T) → Ok x ≡ inside_or f n N r → outside n N ≡ false
answered f n N r x h = by_false (outside n N) (fault_at f n Outside) r x h

by_value : {T : Type 0} (b : Bool) (e : StoreFault) (x y : T) → Ok x ≡ cond b (Err e) (Ok y) → x ≡ y
by_value true e x y h = let z : ◌≡◌ {A = ℕ} 0 1 = cc in let w : ⊥ = omega arith in elim w [ ]
by_value false e x y h = cc

-- and it is the answer inside
pub answered_is : {T : Type 0} (f : Function) (n N : ℕ) (x y : T) → Ok x ≡ inside_or f n N (Ok y) → x ≡ y
answered_is f n N x y h = by_value (outside n N) (fault_at f n Outside) x y h

by_true : {T : Type 0} (b : Bool) (e x : StoreFault) (y : T) → Err x ≡ cond b (Err e) (Ok y) → b ≡ true
by_true true e x y h = refl
by_true false e x y h = let z : ◌≡◌ {A = ℕ} 0 1 = cc in let w : ⊥ = omega arith in elim w [ ]

-- what is refused, and would be answered inside, lies outside
pub refused : {T : Type 0} (f : Function) (n N : ℕ) (x : StoreFault) (y : T) → Err x ≡ inside_or f n N (Ok y) → outside n N ≡ true
refused f n N x y h = by_true (outside n N) (fault_at f n Outside) x y h

by_fault : {T U : Type 0} (b : Bool) (e x : StoreFault) (y : T) (r : Result U StoreFault) → Err x ≡ cond b (Err e) (Ok y) → Err x ≡ cond b (Err e) r
by_fault true e x y r h = cc
by_fault false e x y r h = let z : ◌≡◌ {A = ℕ} 0 1 = cc in let w : ⊥ = omega arith in elim w [ ]

-- the same fault answers every question at that number
pub refused_so : {T U : Type 0} (f : Function) (n N : ℕ) (x : StoreFault) (y : T) (r : Result U StoreFault) → Err x ≡ inside_or f n N (Ok y) → Err x ≡ inside_or f n N r
refused_so f n N x y r h = by_fault (outside n N) (fault_at f n Outside) x y r h

module _ {K : Type 0} where
  pub count_is : (cs : List (Cell K)) → count_answer cs ≡ length cs
  unfolding count_answer
  count_is cs = refl

  pub mark_inside : (cs : List (Cell K)) (n : ℕ) → outside n (length cs) ≡ false → mark_answer cs n ≡ Ok (mark_of (cell_at cs n))
  unfolding mark_answer
  mark_inside cs n e = rw e

  pub read_inside : (cs : List (Cell K)) (n : ℕ) → outside n (length cs) ≡ false → read_answer cs n ≡ shown n (cell_at cs n)
  unfolding read_answer
  read_inside cs n e = rw e

  pub write_inside : (cs : List (Cell K)) (n : ℕ) → outside n (length cs) ≡ false → write_answer cs n ≡ Ok tt
  unfolding write_answer
  write_inside cs n e = rw e

  pub replaced_inside : (cs : List (Cell K)) (n : ℕ) (c : Cell K) → outside n (length cs) ≡ false → replaced cs n c ≡ set cs (n - 1) c
  replaced_inside cs n c e = rw e

  pub replaced_outside : (cs : List (Cell K)) (n : ℕ) (c : Cell K) → outside n (length cs) ≡ true → replaced cs n c ≡ cs
  replaced_outside cs n c e = rw e
