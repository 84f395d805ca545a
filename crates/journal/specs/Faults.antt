-- The faults of a log.
use Rattle.std.specs.Prelude.{ℕ, List, ◌++◌, codes, decimal}
use Rattle.journal.specs.declared.format.LogFault.{LogFault}
use Rattle.journal.specs.declared.format.LogFault.TheVariants.{Unknown, Cut}

-- the number that each fault is told by
abbrev pub fault_number : LogFault → ℕ
fault_number (Unknown place) = 15
fault_number (Cut place) = 16

-- the offset of the kind byte that it is about
abbrev pub fault_byte : LogFault → ℕ
fault_byte (Unknown place) = place
fault_byte (Cut place) = place

-- what is printed of it
abbrev pub fault_shown : LogFault → List ℕ
fault_shown f = codes "byte " ++ (decimal (fault_byte f) ++ (codes " refused " ++ decimal (fault_number f)))
