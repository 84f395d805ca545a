-- Whole numbers as keys, all of them well formed, and the region [k, k + 1) for each of them, which is k itself.
use Rattle.std.specs.Prelude.{ℕ, suc}
use Rattle.keys.specs.Orders.{orderℕ}
use Rattle.trees.specs.Regions.{Ranges}

abbrev pub units : Ranges ℕ ℕ
units = record { Formed = λ k. Unit {0}; order = orderℕ; low = λ k. k; high = λ k. suc k }
