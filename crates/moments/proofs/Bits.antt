-- The bits of sessions, by the arithmetic of a machine word.
use Rattle.std.proofs.Common.{◌≡◌, ℕ, zero, suc, ◌+◌, ◌-◌, ◌*◌, ◌/◌, ◌%◌, ◌^◌, ◌<◌, ◌≤◌, Bool, true, false, cond, eqb, sym, refl, ap, ◌∙◌, one-mul, pow-suc, zero-mul, arith, pow_pos, eq-eqb, ne_eqb, eqb-true}
use native.Mathlib.Decide.{dec_le}
use lib.Bits.{bit_xor, xor_block, xor_zero_r}
use lib.Pow.{pow-lt, high, low, field, mod-mod-pow}
use Rattle.runs.specs.Histories.{bits}
use Rattle.moments.specs.Invariant.{but_for}
use Rattle.moments.specs.Theorems.{BitsLose}
use Rattle.moments.proofs.Told.{bits_same}

-- a bit as a number
abbrev one : Bool → ℕ
one b = cond b 1 0

top : (b : Bool) (n : ℕ) → ◌≡◌ {A = ℕ} (cond b (2 ^ n) 0) (one b * 2 ^ n)
top true n = sym (one-mul (2 ^ n))
top false n = sym (zero-mul (2 ^ n))

-- the last bit over the others
over : (f : ℕ → Bool) (n : ℕ) → bits f (suc n) ≡ one (f n) * 2 ^ n + bits f n
over f n = let a = top (f n) n in omega arith

pub bits_below : (f : ℕ → Bool) (n : ℕ) → bits f n < 2 ^ n
bits_below f zero = omega arith
bits_below f (suc n) = by_last (f n) (bits_below f n)
  where
    by_last : (b : Bool) → bits f n < 2 ^ n → bits f n + cond b (2 ^ n) 0 < 2 ^ suc n
    by_last true h = let e = pow-suc 2 n in omega arith
    by_last false h = let e = pow-suc 2 n in omega arith

one_bit : (b : Bool) → one b % 2 ≡ one b
one_bit true = refl
one_bit false = refl

one_told : (b : Bool) → eqb (one b) 1 ≡ b
one_told true = refl
one_told false = refl

-- a bit below the last is a bit of the others
lower : (hi lo s n : ℕ) → s < n → lo < 2 ^ n → (hi * 2 ^ n + lo) / 2 ^ s % 2 ≡ lo / 2 ^ s % 2
lower hi lo s n h l =
    let X = hi * 2 ^ n + lo in
    let d : (n - suc s) + (1 + s) ≡ n = omega arith in
    let a : X % 2 ^ n % 2 ^ (1 + s) ≡ X % 2 ^ (1 + s) =
    ap (λ (k : ℕ). X % 2 ^ k % 2 ^ (1 + s)) (sym d) ∙ mod-mod-pow X (n - suc s) (1 + s) in
    let b : X % 2 ^ (1 + s) ≡ lo % 2 ^ (1 + s) = sym a ∙ ap (λ (k : ℕ). k % 2 ^ (1 + s)) (low hi n l) in
    sym (field X 1 s) ∙ ap (λ (k : ℕ). k / 2 ^ s) b ∙ field lo 1 s

bit_told : (f : ℕ → Bool) (s n : ℕ) → s < n → bits f n / 2 ^ s % 2 ≡ one (f s)
bit_told f s zero h = absurd (let e : ⊥ = omega arith in e)
bit_told f s (suc n) h = ap (λ (k : ℕ). k / 2 ^ s % 2) (over f n) ∙ by_last (dec_le (suc s) n) (bit_told f s n)
  where
    by_last : Dec (s < n) → (s < n → bits f n / 2 ^ s % 2 ≡ one (f s)) → (one (f n) * 2 ^ n + bits f n) / 2 ^ s % 2 ≡ one (f s)
    by_last (yes l) i = lower (one (f n)) (bits f n) s n l (bits_below f n) ∙ i l
    by_last (no l) i =
        let e : s ≡ n = omega arith in
        ap (λ (k : ℕ). (one (f n) * 2 ^ n + bits f n) / 2 ^ k % 2) e ∙ ap (λ (k : ℕ). k % 2) (high (one (f n)) n (bits_below f n)) ∙ one_bit (f n) ∙
        ap (λ (k : ℕ). one (f k)) (sym e)

-- what is below s is as it was without s
but_below : (f : ℕ → Bool) (s n : ℕ) → n ≤ s → bits (but_for s f) n ≡ bits f n
but_below f s n h =
    bits_same (but_for s f) f n (λ j l. ap (λ (b : Bool). cond b false (f j)) (ne_eqb j s (λ e. let d : ⊥ = omega arith in d)))

bit_lost : (f : ℕ → Bool) (s n : ℕ) → s < n → f s ≡ true → bit_xor (bits f n) (2 ^ s) ≡ bits (but_for s f) n
bit_lost f s zero h t = absurd (let e : ⊥ = omega arith in e)
bit_lost f s (suc n) h t = ap (λ (k : ℕ). bit_xor k (2 ^ s)) (over f n) ∙ by_last (dec_le (suc s) n) (bit_lost f s n) ∙ sym (over (but_for s f) n)
  where
    by_last :
        Dec (s < n) → (s < n → f s ≡ true → bit_xor (bits f n) (2 ^ s) ≡ bits (but_for s f) n) →
        bit_xor (one (f n) * 2 ^ n + bits f n) (2 ^ s) ≡ one (but_for s f n) * 2 ^ n + bits (but_for s f) n
    by_last (yes l) i =
        let e : 2 ^ s ≡ 0 * 2 ^ n + 2 ^ s = let z = zero-mul (2 ^ n) in omega arith in
        let b : f n ≡ but_for s f n = sym (ap (λ (c : Bool). cond c false (f n)) (ne_eqb n s (λ d. let u : ⊥ = omega arith in u))) in
        ap (bit_xor (one (f n) * 2 ^ n + bits f n)) e ∙ xor_block n (one (f n)) 0 (bits f n) (2 ^ s) (bits_below f n) (pow-lt l) ∙
        ap (λ (k : ℕ). k * 2 ^ n + bit_xor (bits f n) (2 ^ s)) (xor_zero_r (one (f n)) ∙ ap one b) ∙
        ap (λ (k : ℕ). one (but_for s f n) * 2 ^ n + k) (i l t)
    by_last (no l) i =
        let d : s ≡ n = omega arith in
        let e : 2 ^ s ≡ 1 * 2 ^ n + 0 = let z = one-mul (2 ^ n) in ap (λ (k : ℕ). 2 ^ k) d ∙ omega arith in
        let b : f n ≡ true = ap f (sym d) ∙ t in
        let c : but_for s f n ≡ false = ap (λ (g : Bool). cond g false (f n)) (eq-eqb n s (sym d)) in
        ap (bit_xor (one (f n) * 2 ^ n + bits f n)) e ∙ xor_block n (one (f n)) 1 (bits f n) 0 (bits_below f n) (pow_pos n) ∙
        ap (λ (g : Bool). bit_xor (one g) 1 * 2 ^ n + bit_xor (bits f n) 0) b ∙ ap (λ (k : ℕ). 0 * 2 ^ n + k) (xor_zero_r (bits f n)) ∙
        ap (λ (k : ℕ). 0 * 2 ^ n + k) (sym (but_below f s n (omega arith))) ∙ ap (λ (g : Bool). one g * 2 ^ n + bits (but_for s f) n) (sym c)

-- a session that was not picked leaves all as it was
not_picked : (f : ℕ → Bool) (s j : ℕ) → f s ≡ false → f j ≡ but_for s f j
not_picked f s j e = by_test (eqb j s) refl
  where
    by_test : (b : Bool) → eqb j s ≡ b → f j ≡ cond b false (f j)
    by_test true d = ap f (eqb-true j s d) ∙ e
    by_test false d = refl

pub bits_lose : BitsLose
bits_lose f s n h = record {
  told = ap (λ (k : ℕ). eqb k 1) (bit_told f s n h) ∙ one_told (f s);
  lost = bit_lost f s n h;
  stays = λ e. bits_same f (but_for s f) n (λ j l. not_picked f s j e);
}
