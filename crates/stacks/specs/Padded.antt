-- Lists of n numbers in which all from place h on are 0.
use Rattle.std.specs.Prelude.{ℕ, ◌≡◌, ◌-◌, ◌≤◌, List, length, drop, replicate}

pub record Padded (h n : ℕ) (xs : List ℕ) : Type 0 where
  pub small : h ≤ n
  pub long : length xs ≡ n
  pub blank : drop h xs ≡ replicate (n - h) 0
