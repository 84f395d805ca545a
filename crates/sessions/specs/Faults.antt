-- The refusals of a session's calls and of the making: their numbers, and what is printed of them.
use Rattle.std.specs.Prelude.{ℕ, List, ◌++◌, codes, decimal}
use Rattle.store.specs.Faults.{store_fault_shown}
use Rattle.sessions.specs.declared.fault.SessionFault.{SessionFault}
use Rattle.sessions.specs.declared.fault.SessionFault.TheVariants.{NoSession, HasLookup, NoLookup, Lookup}
use Rattle.sessions.specs.declared.fault.MakeFault.{MakeFault}
use Rattle.sessions.specs.declared.fault.MakeFault.TheVariants.{Size, Store}

-- the number of each refusal; 2, 3 and 4 carry no values, 14 carries what was being done, a lookup, and the store's fault
abbrev pub fault_number : SessionFault → ℕ
fault_number NoSession = 2
fault_number HasLookup = 3
fault_number NoLookup = 4
fault_number (Lookup e) = 14

abbrev pub session_fault_shown : SessionFault → List ℕ
session_fault_shown NoSession = codes "no such session"
session_fault_shown HasLookup = codes "the session has a lookup"
session_fault_shown NoLookup = codes "the session has no lookup"
session_fault_shown (Lookup e) = codes "lookup " ++ store_fault_shown e

-- the number of each refusal of the making
abbrev pub make_fault_number : MakeFault → ℕ
make_fault_number (Size n) = 1
make_fault_number (Store e) = 14

abbrev pub make_fault_shown : MakeFault → List ℕ
make_fault_shown (Size n) = decimal n ++ codes " nodes"
make_fault_shown (Store e) = codes "making " ++ store_fault_shown e
