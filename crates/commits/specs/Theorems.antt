-- What follows of an edit of which every write falls on a node of the store.
use Rattle.std.specs.Prelude.{ℕ, ◌≤◌, List, Option, length}
use Rattle.drafts.specs.declared.link.Numbered.{Numbered}
use Rattle.drafts.specs.Grown.{Grown}
use Rattle.commits.specs.declared.writes.Joint.{Joint}
use Rattle.commits.specs.Commits.{news, placed, committed, GoneInside}

-- there is a number for each new node: one without is given the number 0, and no node has that
abbrev pub TakesEnough : Type 0 → Type 0
TakesEnough K =
    (N : ℕ) (j : Option (Joint K)) (t : Grown K) (ns : List ℕ) (sessions : ℕ) (gone : List (Numbered K)) →
    GoneInside N (committed j (placed t ns) sessions gone) → news t ≤ length ns
