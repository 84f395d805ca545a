-- What the edits are refused for: the number of each refusal, and what a refused read comes to.
use Rattle.std.specs.Prelude.{ℕ, Ok, Err, Result}
use Rattle.store.specs.declared.fault.StoreFault.{StoreFault}
use Rattle.edits.specs.declared.fault.Doing.{Doing}
use Rattle.edits.specs.declared.fault.TreeFault.{TreeFault}
use Rattle.edits.specs.declared.fault.Refusal.{Refusal}
use Rattle.edits.specs.declared.fault.Refusal.TheVariants.{Busy, Resting, Overlaps, Missing, SameAsLow, Full, Crowded, Refused}

-- the number that is returned for each refusal; 14 goes with what was being done and the store's fault
abbrev pub number_of : Refusal → ℕ
number_of Busy = 7
number_of Resting = 8
number_of Overlaps = 9
number_of Missing = 10
number_of SameAsLow = 11
number_of Full = 12
number_of Crowded = 13
number_of (Refused e) = 14

-- the store's fault inside the tree's
abbrev pub during : {T : Type 0} → Doing → Result T StoreFault → Result T TreeFault
during doing (Ok x) = Ok x
during doing (Err e) = Err (record { doing = doing; fault = e })

-- and that inside the call's
unfoldable pub refused_in : {T : Type 0} → Doing → Result T StoreFault → Result T Refusal
refused_in doing (Ok x) = Ok x
refused_in doing (Err e) = Err (Refused (record { doing = doing; fault = e }))
