-- Bytes and the number that they write give each other back.
use Rattle.std.proofs.Common.{◌≡◌, ℕ, zero, suc, ◌+◌, ◌*◌, ◌/◌, ◌%◌, ◌^◌, ◌<◌, ◌≤◌, List, [], ◌∷◌, length, get_or, take, drop, sym, refl, ap, ◌∙◌, mod-eq_of_lt, mul_assoc, arith, lit<}
use native.Mathlib.Nat.{mod-one, one-le-pow, pow-succ', mul-add-div_right, mul-add-mod_self_right}
use lib.Arith.{mod-mul, digits_div, digits_lt}
use Rattle.keys.specs.Bytes.{AllBytes, bytes, number}

pos : (k : ℕ) → 0 < 256 ^ k
pos k = one-le-pow k 256 (lit< tt)

-- a byte in front moves every place by one
pub shifted : (k i b : ℕ) (bs : List ℕ) → number k (suc i) (b ∷ bs) ≡ number k i bs
shifted zero i b bs = refl
shifted (suc k) i b bs = ap (λ n. get_or bs i 0 * 256 ^ k + n) (shifted k (suc i) b bs)

number_take : (k : ℕ) (bs : List ℕ) → number k 0 (take k bs) ≡ number k 0 bs
number_take zero bs = refl
number_take (suc k) [] = refl
number_take (suc k) (b ∷ bs) =
    ap (λ n. b * 256 ^ k + n) (shifted k 0 b (take k bs) ∙ number_take k bs ∙ sym (shifted k 0 b bs))

-- k bytes taken out from place i on write the number that they write there
pub number_taken : (k i : ℕ) (bs : List ℕ) → i + k ≤ length bs → number k 0 (take k (drop i bs)) ≡ number k i bs
number_taken k zero bs h = number_take k bs
number_taken k (suc i) [] h = let z : ⊥ = omega arith in elim z [ ]
number_taken k (suc i) (b ∷ bs) h = number_taken k i bs (omega arith) ∙ sym (shifted k i b bs)

-- the k lowest bytes of a number write what is left of it by 256^k
pub number_bytes : (k n : ℕ) → number k 0 (bytes k n) ≡ n % 256 ^ k
number_bytes zero n = sym (mod-one n)
number_bytes (suc k) n =
    ap (λ m. n / 256 ^ k % 256 * 256 ^ k + m) (shifted k 0 (n / 256 ^ k % 256) (bytes k n) ∙ number_bytes k n)
    ∙ sym (mod-mul n {m = 256} {c = 256 ^ k} (lit< tt) (pos k)) ∙ ap (λ m. n % m) (sym (pow-succ' 256 k))

pub length_bytes : (k n : ℕ) → length (bytes k n) ≡ k
length_bytes zero n = refl
length_bytes (suc k) n = ap suc (length_bytes k n)

-- what stands above the k lowest bytes does not count
bytes_more : (k a r : ℕ) → bytes k (a * 256 ^ k + r) ≡ bytes k r
bytes_more zero a r = refl
bytes_more (suc k) a r =
    let e : a * 256 ^ suc k ≡ a * 256 * 256 ^ k = ap (λ x. a * x) (pow-succ' 256 k) ∙ sym (mul_assoc a 256 (256 ^ k)) in
    let h : (a * 256 * 256 ^ k + r) / 256 ^ k % 256 ≡ r / 256 ^ k % 256 =
    ap (λ x. x % 256) (mul-add-div_right {m = 256 ^ k} (pos k) (a * 256) r) ∙ mul-add-mod_self_right a 256 (r / 256 ^ k) in
    rw e (ap (λ x. x ∷ bytes k (a * 256 * 256 ^ k + r)) h ∙ ap (λ l. (r / 256 ^ k % 256) ∷ l) (bytes_more k (a * 256) r))

tail_bytes : (b : ℕ) (bs : List ℕ) → AllBytes (b ∷ bs) → AllBytes bs
tail_bytes b bs s i = s (suc i)

pub number_lt : (k : ℕ) (bs : List ℕ) → length bs ≡ k → AllBytes bs → number k 0 bs < 256 ^ k
number_lt zero bs l s = lit< tt
number_lt (suc k) [] l s = let z : ⊥ = omega arith in elim z [ ]
number_lt (suc k) (b ∷ bs) l s =
    rw (shifted k 0 b bs, pow-succ' 256 k) (digits_lt (s 0) (number_lt k bs (omega arith) (tail_bytes b bs s)))

-- bytes are the bytes of the number that they write
pub bytes_number : (k : ℕ) (bs : List ℕ) → length bs ≡ k → AllBytes bs → bytes k (number k 0 bs) ≡ bs
bytes_number zero [] l s = refl
bytes_number zero (b ∷ bs) l s = let z : ⊥ = omega arith in elim z [ ]
bytes_number (suc k) [] l s = let z : ⊥ = omega arith in elim z [ ]
bytes_number (suc k) (b ∷ bs) l s =
    let r : ℕ = number k 0 bs in
    let small : r < 256 ^ k = number_lt k bs (omega arith) (tail_bytes b bs s) in
    let h : (b * 256 ^ k + r) / 256 ^ k % 256 ≡ b = ap (λ x. x % 256) (digits_div b small) ∙ mod-eq_of_lt (s 0) in
    rw (shifted k 0 b bs) (ap (λ x. x ∷ bytes k (b * 256 ^ k + r)) h ∙ ap (λ x. b ∷ x) (bytes_more k b r ∙ bytes_number k bs (omega arith) (tail_bytes b bs s)))
