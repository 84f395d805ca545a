-- The bits of the sessions with an open lookup, one session after another.
use Rattle.std.proofs.Common.{◌≡◌, ℕ, ◌+◌, ◌*◌, ◌%◌, ◌^◌, ◌<◌, Bool, true, false, cond, bit_or, List, sym, ap, ◌∙◌, subst, one-mul, add-one, arith, pow-add}
use native.Mathlib.Nat.{mod-eq_of_lt}
use lib.Bits.{or_shifted_r}
use lib.Pow.{pow-lt}
use Rattle.sessions.specs.declared.lookup.Row.{Row}
use Rattle.sessions.specs.Lookups.{row_of, is_open, open_upto}

-- bit s is set above the bits below it
bit_joins : (s bits : ℕ) → s < 32 → bits < 2 ^ s → bit_or bits (1 * 2 ^ s % 4294967296) ≡ bits + 2 ^ s
bit_joins s bits few low =
    let one : 1 * 2 ^ s ≡ 2 ^ s = one-mul (2 ^ s) in
    let fits : 1 * 2 ^ s < 4294967296 = subst (λ x. x < 4294967296) (sym one) (pow-lt few) in
    let joined : bit_or bits (1 * 2 ^ s) ≡ 1 * 2 ^ s + bits = or_shifted_r 1 s bits low in
    ap (bit_or bits) (mod-eq_of_lt fits) ∙ joined ∙ omega (arith, one)

module _ (rows : List Row) (s bits n : ℕ) (e : bits ≡ open_upto rows s) (low : bits < 2 ^ s) where
  next : (b : Bool) → b ≡ is_open (row_of rows s).state → open_upto rows (s + 1) ≡ open_upto rows s + cond b (2 ^ s) 0
  next b h = ap (open_upto rows) (add-one s) ∙ ap (λ c. open_upto rows s + cond c (2 ^ s) 0) (sym h)

  pub next_open : s < 32 → true ≡ is_open (row_of rows s).state → n ≡ bit_or bits (1 * 2 ^ s % 4294967296) →
      (n ≡ open_upto rows (s + 1)) × (n < 2 ^ (s + 1))
  next_open few h i =
      let m : 2 ^ (s + 1) ≡ 2 ^ s * 2 = pow-add 2 s 1 in
      let q : open_upto rows (s + 1) ≡ open_upto rows s + 2 ^ s = next true h in
      let j : n ≡ bits + 2 ^ s = i ∙ bit_joins s bits few low in
      (omega arith, omega arith)

  pub next_closed : false ≡ is_open (row_of rows s).state → n ≡ bits → (n ≡ open_upto rows (s + 1)) × (n < 2 ^ (s + 1))
  next_closed h i =
      let m : 2 ^ (s + 1) ≡ 2 ^ s * 2 = pow-add 2 s 1 in
      let q : open_upto rows (s + 1) ≡ open_upto rows s + 0 = next false h in
      (omega arith, omega arith)
