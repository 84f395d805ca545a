-- Bodies of one byte and a rest: what is written, and what is read back.
use Rattle.std.proofs.Common.{◌≡◌, ℕ, ◌+◌, List, [], ◌∷◌, ◌++◌, length, get_or, take, drop, set, refl, ap, ◌∙◌, append-nil, arith}
use borrow.Rule.Slice.PartMut.{put_mid}
use Rattle.std.proofs.lemmas.List.{drop_all, take_all}

pub written_behind : (n : ℕ) (out rest : List ℕ) (b : ℕ) → length out ≡ n + 1 → put_mid 1 n (set out 0 b) rest ≡ b ∷ rest
written_behind n [] rest b l = let z : ⊥ = omega arith in elim z [ ]
written_behind n (o ∷ out) rest b l =
    ap (λ d. b ∷ (rest ++ d)) (drop_all n out (omega arith)) ∙ ap (λ x. b ∷ x) (append-nil rest)

pub read_behind : (n : ℕ) (bs : List ℕ) → length bs ≡ n + 1 → take n (drop 1 bs) ≡ drop 1 bs
read_behind n [] l = let z : ⊥ = omega arith in elim z [ ]
read_behind n (b ∷ bs) l = take_all n bs (omega arith)

pub joined_again : (n : ℕ) (bs : List ℕ) → length bs ≡ n + 1 → (get_or bs 0 0 ∷ drop 1 bs) ≡ bs
joined_again n [] l = let z : ⊥ = omega arith in elim z [ ]
joined_again n (b ∷ bs) l = refl
