-- The last of a path that is told from the root down.
use Rattle.std.proofs.Common.{◌≡◌, ℕ, ◌-◌, List, [], ◌∷◌, ◌++◌, reverse, length, take, Some, None, refl, ap, ◌∙◌, arith, length-append, take_all}
use mathlib.Core.List.{reverse-cons}
use lib.Seq.{take-append-le}
use Rattle.std.specs.List.{slice_get}
use Rattle.search.specs.Paths.{lowest, above}

nth_last : (xs : List ℕ) (m : ℕ) → slice_get (xs ++ (m ∷ [])) (length xs) ≡ Some m
nth_last [] m = refl
nth_last (x ∷ xs) m = nth_last xs m

last_place : (xs : List ℕ) (m : ℕ) → length (xs ++ (m ∷ [])) - 1 ≡ length xs
last_place xs m = simp length-append (omega arith)

pub lowest_of : (m : ℕ) (ns : List ℕ) → lowest (reverse (m ∷ ns)) ≡ Some m
unfolding lowest
lowest_of m ns =
    ap (λ xs. slice_get xs (length xs - 1)) (reverse-cons m ns) ∙ ap (λ i. slice_get (reverse ns ++ (m ∷ [])) i) (last_place (reverse ns) m) ∙ nth_last (reverse ns) m

pub above_of : (m : ℕ) (ns : List ℕ) → above (reverse (m ∷ ns)) ≡ reverse ns
unfolding above
above_of m ns =
    let xs : List ℕ = reverse ns in
    ap (λ ys. take (length ys - 1) ys) (reverse-cons m ns) ∙ ap (λ i. take i (xs ++ (m ∷ []))) (last_place xs m)
    ∙ take-append-le (length xs) xs (m ∷ []) (omega arith) ∙ take_all (length xs) xs (omega arith)

pub lowest_none : lowest (reverse []) ≡ None
unfolding lowest
lowest_none = refl
