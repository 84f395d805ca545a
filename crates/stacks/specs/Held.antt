-- The numbers that a stack of numbers holds, from the bottom up.
use Rattle.std.specs.Prelude.{ℕ, List, take}
use Rattle.stacks.specs.declared.numbers.Numbers.{Numbers}

abbrev pub held : {N : ℕ} → Numbers N → List ℕ
held s = take s.height s.places
