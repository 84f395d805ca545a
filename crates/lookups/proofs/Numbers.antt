-- Node numbers in lists and trees: which are there, and where a list parts.
use Rattle.std.proofs.Common.{◌≡◌, ℕ, zero, suc, ◌+◌, ◌≤◌, Bool, true, false, cond, eqb, ◌⊎◌, List, [], ◌∷◌, ◌++◌, length, sym, refl, ap, subst, inl, inr, arith, eq-eqb, eqb-true}
use borrow.Author.Tests.{eqb-false}
use Rattle.trees.specs.Trees.{Tree}
use Rattle.trees.specs.Paths.{times, inside, On, In}
use Rattle.trees.proofs.Ancestors.{times_append}

-- a number is counted, or it is not there
counted : (n : ℕ) → (1 ≤ n) ⊎ (1 ≤ n → ⊥)
counted zero = inr (λ h. omega arith)
counted (suc n) = inl (omega arith)

pub in_or_out : {R : Type 0} (q : ℕ) (t : Tree ℕ R) → In q t ⊎ (In q t → ⊥)
in_or_out q t = counted (inside (eqb q) t)

pub on_or_off : (q : ℕ) (ns : List ℕ) → On q ns ⊎ (On q ns → ⊥)
on_or_off q ns = counted (times (eqb q) ns)

pub on_either : (q : ℕ) (ns ms : List ℕ) → On q (ns ++ ms) → On q ns ⊎ On q ms
on_either q ns ms h = elim (on_or_off q ns) [ inl a ↦ inl a | inr a ↦ inr (by_count (times (eqb q) ns) refl a) ]
  where
    by_count : (n : ℕ) → times (eqb q) ns ≡ n → (On q ns → ⊥) → On q ms
    by_count zero e a = omega (arith, times_append q ns ms)
    by_count (suc n) e a = absurd (a (omega arith))

pub on_first : (q : ℕ) (ns : List ℕ) → On q (q ∷ ns)
on_first q ns = rw (eq-eqb q q refl) (omega arith)

pub on_cons : (q n : ℕ) (ns : List ℕ) → On q (n ∷ ns) → (q ≡ n) ⊎ On q ns
on_cons q n ns h = by_test (eqb q n) refl h
  where
    by_test : (b : Bool) → eqb q n ≡ b → 1 ≤ cond b 1 0 + times (eqb q) ns → (q ≡ n) ⊎ On q ns
    by_test true e h = inl (eqb-true q n e)
    by_test false e h = inr (omega arith)

-- a list with q in it: what is before its first q, and what is after
pub record Around (q : ℕ) (ns : List ℕ) : Type 0 where
  pub front : List ℕ
  pub rest : List ℕ
  pub together : ns ≡ front ++ (q ∷ rest)

pub around : (q : ℕ) (ns : List ℕ) → On q ns → Around q ns
around q [] h = absurd (omega arith)
around q (n ∷ ns) h = by_test (eqb q n) refl h (around q ns)
  where
    by_test : (b : Bool) → eqb q n ≡ b → 1 ≤ cond b 1 0 + times (eqb q) ns → (On q ns → Around q ns) → Around q (n ∷ ns)
    by_test true e h ih = record { front = []; rest = ns; together = ap (λ (m : ℕ). m ∷ ns) (sym (eqb-true q n e)) }
    by_test false e h ih = let a = ih (omega arith) in record { front = n ∷ a.front; rest = a.rest; together = ap (λ (ms : List ℕ). n ∷ ms) a.together }

-- a list parted at its first number that is in the tree
abbrev pub BeginsIn : {R : Type 0} → Tree ℕ R → List ℕ → Type 0
BeginsIn u [] = Unit {0}
BeginsIn u (n ∷ ns) = In n u

pub record Parted {R : Type 0} (u : Tree ℕ R) (ns : List ℕ) : Type 0 where
  pub front : List ℕ
  pub rest : List ℕ
  pub together : ns ≡ front ++ rest
  pub left_tree : (q : ℕ) → On q front → In q u → ⊥
  pub begins : BeginsIn u rest

pub parted : {R : Type 0} (u : Tree ℕ R) (ns : List ℕ) → Parted u ns
parted u [] = record { front = []; rest = []; together = refl; left_tree = λ q h. absurd (omega arith); begins = tt }
parted u (n ∷ ns) = by_place (in_or_out n u) (parted u ns)
  where
    by_test : (q : ℕ) (b : Bool) (front : List ℕ) → eqb q n ≡ b → (In n u → ⊥) → (On q front → In q u → ⊥) → 1 ≤ cond b 1 0 + times (eqb q) front → In q u → ⊥
    by_test q true front e o l h i = o (subst (λ (m : ℕ). In m u) (eqb-true q n e) i)
    by_test q false front e o l h i = l (omega arith) i

    by_place : In n u ⊎ (In n u → ⊥) → Parted u ns → Parted u (n ∷ ns)
    by_place (inl i) ih = record { front = []; rest = n ∷ ns; together = refl; left_tree = λ q h. absurd (omega arith); begins = i }
    by_place (inr o) ih = record {
      front = n ∷ ih.front;
      rest = ih.rest;
      together = ap (λ (ms : List ℕ). n ∷ ms) ih.together;
      left_tree = λ q h. by_test q (eqb q n) ih.front refl o (ih.left_tree q) h;
      begins = ih.begins;
    }

-- HOW MANY DIFFERENT NUMBERS there are between two bounds

-- how many of a list are above the base, by this much at most
abbrev tally : ℕ → ℕ → List ℕ → ℕ
tally base zero ns = 0
tally base (suc m) ns = times (eqb (base + suc m)) ns + tally base m ns

tally_cons : (base m n : ℕ) (ns : List ℕ) → tally base m (n ∷ ns) ≡ tally base m (n ∷ []) + tally base m ns
tally_cons base zero n ns = refl
tally_cons base (suc m) n ns = omega (arith, tally_cons base m n ns)

tally_one : (base m n : ℕ) → suc base ≤ n → n ≤ base + m → 1 ≤ tally base m (n ∷ [])
tally_one base zero n h i = absurd (let f : ⊥ = omega arith in f)
tally_one base (suc m) n h i = by_test (eqb (base + suc m) n) refl (tally_one base m n h)
  where
    by_test : (b : Bool) → eqb (base + suc m) n ≡ b → (n ≤ base + m → 1 ≤ tally base m (n ∷ [])) → 1 ≤ (cond b 1 0 + 0) + tally base m (n ∷ [])
    by_test true e ih = omega arith
    by_test false e ih = let ne = eqb-false (base + suc m) n e in omega (arith, ih (omega arith))

tally_most : (base m : ℕ) (ns : List ℕ) → ((q : ℕ) → times (eqb q) ns ≤ 1) → tally base m ns ≤ m
tally_most base zero ns once = omega arith
tally_most base (suc m) ns once = omega (arith, once (base + suc m), tally_most base m ns once)

tally_all : (base m : ℕ) (ns : List ℕ) → ((q : ℕ) → On q ns → (suc base ≤ q) × (q ≤ base + m)) → length ns ≤ tally base m ns
tally_all base m [] h = omega arith
tally_all base m (n ∷ ns) h =
    let k = h n (on_first n ns) in
    omega (arith, tally_cons base m n ns, tally_one base m n k.0 k.1, tally_all base m ns (λ q o. h q (omega arith)))

pub at_most : (base m : ℕ) (ns : List ℕ) → ((q : ℕ) → times (eqb q) ns ≤ 1) → ((q : ℕ) → On q ns → (suc base ≤ q) × (q ≤ base + m)) → length ns ≤ m
at_most base m ns once h = omega (arith, tally_most base m ns once, tally_all base m ns h)
