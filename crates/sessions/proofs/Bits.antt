-- Single bits, where one is taken away.
use Rattle.std.proofs.Common.{◌≡◌, ℕ, suc, ◌+◌, ◌-◌, ◌/◌, ◌%◌, ◌^◌, ◌<◌, Bool, true, false, eqb, ltb, ◌≢◌, sym, refl, ap, ◌∙◌, subst, one-mul, arith, pow_pos, pow-add}
use native.Mathlib.Nat.{div-eq_of_lt, div_self}
use lib.Bits.{bit_xor, xor_shr, xor_mod, xor_zero_r, shifted_even}
use lib.Pow.{pow-lt, shl-shr}
use Rattle.std.proofs.lemmas.Bool.{eqb-true, ltb-true, ltb-false}
use Rattle.sessions.specs.Waiting.{bit, without_bit}

-- a bit of an exclusive or
xor_bit : (a b t : ℕ) → bit_xor a b / 2 ^ t % 2 ≡ bit_xor (a / 2 ^ t % 2) (b / 2 ^ t % 2)
xor_bit a b t = ap (λ x. x % 2) (xor_shr a b t) ∙ xor_mod (a / 2 ^ t) (b / 2 ^ t) 1

-- 2 ^ s has no other bit than s
below_bit : (s t : ℕ) → s < t → 2 ^ s / 2 ^ t % 2 ≡ 0
below_bit s t h = ap (λ x. x % 2) (div-eq_of_lt (pow-lt h))

above_bit : (t d : ℕ) → 2 ^ (suc d + t) / 2 ^ t % 2 ≡ 0
above_bit t d =
    ap (λ x. x / 2 ^ t % 2) (pow-add 2 (suc d) t) ∙ ap (λ x. x % 2) (shl-shr (2 ^ suc d) t)
    ∙ ap (λ x. x % 2) (sym (one-mul (2 ^ suc d))) ∙ shifted_even 1 d

other_bit : (s t : ℕ) → t ≢ s → 2 ^ s / 2 ^ t % 2 ≡ 0
other_bit s t ne = by_side (ltb s t) refl
  where
    by_side : (b : Bool) → ltb s t ≡ b → 2 ^ s / 2 ^ t % 2 ≡ 0
    by_side true e = below_bit s t (ltb-true s t e)
    by_side false e =
        let le = ltb-false s t e in
        let far : suc (s - t - 1) + t ≡ s = omega (arith, le, ne) in
        subst (λ x. 2 ^ x / 2 ^ t % 2 ≡ 0) far (above_bit t (s - t - 1))

own_bit : (s : ℕ) → 2 ^ s / 2 ^ s % 2 ≡ 1
own_bit s = ap (λ x. x % 2) (div_self (pow_pos s))

pub bit_stays : (s t w : ℕ) → t ≢ s → bit t (without_bit s w) ≡ bit t w
bit_stays s t w ne =
    ap (λ x. eqb x 1) (xor_bit w (2 ^ s) t ∙ ap (bit_xor (w / 2 ^ t % 2)) (other_bit s t ne) ∙ xor_zero_r (w / 2 ^ t % 2))

pub bit_goes : (s w : ℕ) → bit s w ≡ true → bit s (without_bit s w) ≡ false
bit_goes s w h =
    let one : w / 2 ^ s % 2 ≡ 1 = eqb-true (w / 2 ^ s % 2) 1 h in
    ap (λ x. eqb x 1) (xor_bit w (2 ^ s) s ∙ ap (λ x. bit_xor x (2 ^ s / 2 ^ s % 2)) one ∙ ap (bit_xor 1) (own_bit s))
