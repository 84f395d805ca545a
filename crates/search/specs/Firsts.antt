-- Taking numbers from a list one by one.
use Rattle.std.specs.Prelude.{ℕ, List, [], ◌∷◌}

abbrev pub first : List ℕ → ℕ
first [] = 0
first (n ∷ ns) = n

abbrev pub later : List ℕ → List ℕ
later [] = []
later (n ∷ ns) = ns
