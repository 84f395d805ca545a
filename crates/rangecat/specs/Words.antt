-- The words of the command line.
use Rattle.std.specs.Prelude.{◌≡◌, ℕ, ◌⊎◌, List, codes}
use Rattle.rangecat.specs.declared.command.Command.{Command}
use Rattle.rangecat.specs.declared.command.Command.TheVariants as command

-- the words of each command
abbrev pub Names : List ℕ → Command → Type 0
Names word command.Help = (word ≡ codes "--help") ⊎ ((word ≡ codes "-h") ⊎ (word ≡ codes "help"))
Names word command.List = word ≡ codes "list"
Names word command.Dump = word ≡ codes "dump"

abbrev pub NoneNamed : List ℕ → Type 0
NoneNamed word = (c : Command) → Names word c → ⊥
