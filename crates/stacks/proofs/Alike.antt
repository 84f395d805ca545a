-- Two stacks of numbers that hold the same are the same: the numbers say how many they are, and 0 fills the other places.
use Rattle.std.proofs.Common.{ℕ, ◌≡◌, ◌-◌, List, ◌++◌, length, take, replicate, sym, ap, ◌∙◌, subst}
use Rattle.std.proofs.lemmas.List.{take-append-drop, length-take-le}
use Rattle.std.specs.Coded.{Coded-set, coded_ℕ, coded_list, le_prop}
use Rattle.stacks.specs.declared.numbers.Numbers.{Numbers}
use Rattle.stacks.specs.Padded.{Padded}
use Rattle.stacks.specs.Held.{held}

front_long : (h n : ℕ) (xs : List ℕ) → Padded h n xs → length (take h xs) ≡ h
front_long h n xs p = length-take-le h xs (rw p.long p.small)

refilled : (h n : ℕ) (xs : List ℕ) → Padded h n xs → take h xs ++ replicate (n - length (take h xs)) 0 ≡ xs
refilled h n xs p = rw (front_long h n xs p, ← p.blank) (take-append-drop h xs)

padded_once : (h n : ℕ) (xs : List ℕ) → IsProp (Padded h n xs)
padded_once h n xs = hlevel (le_prop, Coded-set coded_ℕ, Coded-set (coded_list coded_ℕ))

abbrev made : {N : ℕ} (h : ℕ) (xs : List ℕ) → Padded h N xs → Numbers N
made h xs p = record { places = xs; height = h; padded = p }

made_alike : {N : ℕ} (h k : ℕ) (xs ys : List ℕ) (p : Padded h N xs) (q : Padded k N ys) → h ≡ k → xs ≡ ys → made h xs p ≡ made k ys q
made_alike {N} h k xs ys p q e f =
    subst (λ m. (r : Padded m N ys) → made h xs p ≡ made m ys r) e
    (subst (λ zs. (r : Padded h N zs) → made h xs p ≡ made h zs r) f (λ r. ap (made h xs) (padded_once h N xs p r))) q

pub same_held : {N : ℕ} (a b : Numbers N) → held a ≡ held b → a ≡ b
same_held {N} a b e =
    let heights : a.height ≡ b.height = sym (front_long a.height N a.places a.padded) ∙ ap length e ∙ front_long b.height N b.places b.padded in
    let places : a.places ≡ b.places = sym (refilled a.height N a.places a.padded) ∙ ap (λ ns. ns ++ replicate (N - length ns) 0) e ∙ refilled b.height N b.places b.padded in
    made_alike a.height b.height a.places b.places a.padded b.padded heights places
