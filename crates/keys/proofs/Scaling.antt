-- Decimal keys: the product of a coefficient and a power of ten fits 64 bits.
use Rattle.std.proofs.Common.{◌≡◌, ℕ, zero, suc, ◌-◌, ◌*◌, ◌^◌, ◌≤◌, ℤ, pos, negsuc, ◌*ℤ◌, neg_ℤ, nat_abs, Some, None, Option, refl, mul-le-mul, arith, lit<, w64, SFits}
use native.Mathlib.Nat.{pow-le-pow_right}
use lib.Signed.{mag}
use Rattle.std.proofs.lemmas.Bool.Decides.{nat_tests}
use Rattle.keys.specs.Orders.{first_fault}
use Rattle.keys.specs.Decimals.{coefficient_fault}

-- where neither check found a fault, the first found none
pub first_none : {F : Type 0} (f g : Option F) → first_fault f g ≡ None → f ≡ None
first_none None g e = refl
first_none (Some f) g e = e

pub coefficient_small : (c : ℤ) → coefficient_fault c ≡ None → nat_abs c ≤ 999999999
coefficient_small (pos a) e = grind (arith, nat_tests)
coefficient_small (negsuc a) e = grind (arith, nat_tests)

pub power_small : (s : ℕ) → 10 ^ (9 - s) ≤ 1000000000
power_small s = pow-le-pow_right {n = 10} (lit< tt) {j = 9} (omega arith)

mag_negated : (n : ℕ) → mag (neg_ℤ (pos n)) ≤ n
mag_negated zero = omega arith
mag_negated (suc n) = omega arith

pub product_fits : (c : ℤ) (p : ℕ) → nat_abs c ≤ 999999999 → p ≤ 1000000000 → SFits w64 (c *ℤ pos p)
product_fits (pos a) p h k = let m : a * p ≤ 999999999 * 1000000000 = mul-le-mul h k in record { sfits = omega arith }
product_fits (negsuc a) p h k =
    let m : suc a * p ≤ 999999999 * 1000000000 = mul-le-mul h k in
    record { sfits = omega (arith, mag_negated (suc a * p)) }
