-- Packing and unpacking, one after the other.
use Rattle.std.proofs.Common.{◌≡◌, ℕ, Bool, true, false, cond, Some, None, refl, arith}

pub by_some : {T : Type 0} (b : Bool) (x y : T) → Some x ≡ cond b (Some y) None → b ≡ true
by_some true x y h = refl
by_some false x y h = let z : ◌≡◌ {A = ℕ} 0 1 = cc in let w : ⊥ = omega arith in elim w [ ]
