-- Where the nodes of a row of bytes lie.
use Rattle.std.proofs.Common.{◌≡◌, ℕ, ◌+◌, ◌-◌, ◌*◌, ◌/◌, ◌≤◌, false, sym, ap, ◌∙◌, mul-le-mul_right, add-mul, one-mul, div-mul-le_self, arith}
use Rattle.store.specs.Faults.{outside}
use Rattle.store.proofs.Insides.{numbered}

-- node n ends within the nodes, and so within the row
pub among : (n len m : ℕ) → outside n (len / m) ≡ false → (n - 1) * m + m ≤ len / m * m
among n len m e =
    let p = numbered n (len / m) e in
    let k : n - 1 + 1 ≡ n = omega (arith, p.0) in
    let f : (n - 1 + 1) * m ≡ (n - 1) * m + m = add-mul (n - 1) 1 m ∙ ap (λ x. (n - 1) * m + x) (one-mul m) in
    let h : n * m ≤ len / m * m = mul-le-mul_right m p.1 in
    omega (arith, sym (ap (λ x. x * m) k) ∙ f, h)

pub room_inside : (n len m : ℕ) → outside n (len / m) ≡ false → (n - 1) * m + m ≤ len
room_inside n len m e = let h : len / m * m ≤ len = div-mul-le_self len m in omega (arith, among n len m e, h)
