-- How two elements stand to each other, and what a check and a comparison answer.
use Rattle.std.specs.Prelude.{ℕ, cond, ℤ, Some, None, Ok, Err, Option, Result, int_lt, nat_lt}
use Rattle.std.specs.Ordering.{ordering_reverse}
use Rattle.std.specs.declared.cmp.Ordering.{Ordering}
use Rattle.std.specs.declared.cmp.Ordering.TheVariants.{Less, Equal, Greater}

-- how the second stands to the first
abbrev pub reversed : Ordering → Ordering
reversed = ordering_reverse

abbrev pub NotAbove : Ordering → Type 0
NotAbove Less = Unit {0}
NotAbove Equal = Unit {0}
NotAbove Greater = ⊥

-- what a check answers of an element: its fault, else t
abbrev pub checked : {F T : Type 0} → Option F → T → Result T F
checked None t = Ok t
checked (Some f) t = Err f

-- of two checks, the first that found a fault
abbrev pub first_fault : {F : Type 0} → Option F → Option F → Option F
first_fault None g = g
first_fault (Some f) g = Some f

-- what a comparison answers: the first element's fault, else the second's, else how they stand
abbrev pub compared : {F T : Type 0} → Option F → Option F → T → Result T F
compared f g o = checked (first_fault f g) o

-- how two whole numbers stand to each other
abbrev pub orderℤ : ℤ → ℤ → Ordering
orderℤ a b = cond (int_lt a b) Less (cond (int_lt b a) Greater Equal)

-- the same of two naturals
abbrev pub orderℕ : ℕ → ℕ → Ordering
orderℕ a b = cond (nat_lt a b) Less (cond (nat_lt b a) Greater Equal)
