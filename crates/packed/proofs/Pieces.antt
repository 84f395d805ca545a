-- Pieces of a row of bytes: numbers that stand inside it, and the row put together again.
use Rattle.std.proofs.Common.{◌≡◌, ℕ, zero, suc, ◌+◌, ◌*◌, ◌^◌, ◌≤◌, List, [], ◌∷◌, ◌++◌, length, get_or, take, drop, sym, refl, ap, ◌∙◌, arith, lit<}
use Rattle.std.proofs.lemmas.List.{length-take-le, take-append-drop, drop-drop}
use Rattle.keys.specs.Bytes.{AllBytes, bytes, number}
use Rattle.keys.proofs.Numbers.{shifted, bytes_number}

-- what stands past the k bytes does not count
number_take : (k : ℕ) (bs : List ℕ) → k ≤ length bs → number k 0 bs ≡ number k 0 (take k bs)
number_take zero bs h = refl
number_take (suc k) [] h = let z : ⊥ = omega arith in elim z [ ]
number_take (suc k) (b ∷ bs) h =
    ap (λ n. b * 256 ^ k + n) (shifted k 0 b bs ∙ number_take k bs (omega arith) ∙ sym (shifted k 0 b (take k bs)))

small_take : (k : ℕ) (bs : List ℕ) → AllBytes bs → AllBytes (take k bs)
small_take zero bs s i = lit< tt
small_take (suc k) [] s i = s i
small_take (suc k) (b ∷ bs) s zero = s 0
small_take (suc k) (b ∷ bs) s (suc i) = small_take k bs (λ j. s (suc j)) i

first_bytes : (k : ℕ) (bs : List ℕ) → k ≤ length bs → AllBytes bs → bytes k (number k 0 bs) ≡ take k bs
first_bytes k bs h s = ap (bytes k) (number_take k bs h) ∙ bytes_number k (take k bs) (length-take-le k bs h) (small_take k bs s)

-- the bytes of the number that k bytes from place i on write are these
pub bytes_at : (k i : ℕ) (bs : List ℕ) → i + k ≤ length bs → AllBytes bs → bytes k (number k i bs) ≡ take k (drop i bs)
bytes_at k zero bs h s = first_bytes k bs (omega arith) s
bytes_at k (suc i) [] h s = let z : ⊥ = omega arith in elim z [ ]
bytes_at k (suc i) (b ∷ bs) h s = ap (bytes k) (shifted k i b bs) ∙ bytes_at k i bs (omega arith) (λ j. s (suc j))

-- a piece before the rest
pub piece : (k i : ℕ) (c bs rest : List ℕ) → c ≡ take k (drop i bs) → rest ≡ drop (i + k) bs → c ++ rest ≡ drop i bs
piece k i c bs rest e f = ap (λ l. l ++ rest) e ∙ ap (λ l. take k (drop i bs) ++ l) (f ∙ sym (drop-drop k i bs)) ∙ take-append-drop k (drop i bs)

pub headed : (n : ℕ) (bs : List ℕ) → length bs ≡ n + 1 → (get_or bs 0 0 ∷ drop 1 bs) ≡ bs
headed n [] l = let z : ⊥ = omega arith in elim z [ ]
headed n (b ∷ bs) l = refl
