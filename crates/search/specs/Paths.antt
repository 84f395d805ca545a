-- A path: the nodes on the way down, from the root. What a path holds is said by `held`, of any stack of numbers.
use Rattle.std.specs.Prelude.{ℕ, ◌-◌, List, length, take, Option}
use Rattle.std.specs.List.{slice_get}
pub use Rattle.stacks.specs.Held.{held}

-- the last node of a path
unfoldable pub lowest : List ℕ → Option ℕ
lowest ns = slice_get ns (length ns - 1)

-- the path without its last node
unfoldable pub above : List ℕ → List ℕ
above ns = take (length ns - 1) ns
