-- Why a store refuses, and what is said of it.
use Rattle.std.specs.Prelude.{ℕ, Bool, cond, ◌||◌, List, ◌++◌, Err, codes, decimal, Result, ◌==◌, nat_lt}
use Rattle.store.specs.declared.fault.Function.{Function}
use Rattle.store.specs.declared.fault.Function.TheVariants.{Mark, Read, Write}
use Rattle.store.specs.declared.fault.Cause.{Cause}
use Rattle.store.specs.declared.fault.Cause.TheVariants.{Outside, Closed}
use Rattle.store.specs.declared.fault.StoreFault.{StoreFault}

-- the word of each function
abbrev pub function_word : Function → List ℕ
function_word Mark = codes "mark"
function_word Read = codes "read"
function_word Write = codes "write"

-- the word of each cause
abbrev pub cause_word : Cause → List ℕ
cause_word Outside = codes "outside"
cause_word Closed = codes "closed"

-- what is printed of a fault: the function, the node's number, the cause
abbrev pub store_fault_shown : StoreFault → List ℕ
store_fault_shown e = function_word e.function ++ (codes " " ++ (decimal e.node ++ (codes " " ++ cause_word e.cause)))

abbrev pub fault_at : Function → ℕ → Cause → StoreFault
fault_at f n c = record { function = f; node = n; cause = c }

-- whether n numbers none of N nodes: the numbers go from 1 to N
abbrev pub outside : ℕ → ℕ → Bool
outside n N = n == 0 || nat_lt N n

-- refused as outside, or else r
abbrev pub inside_or : {T : Type 0} → Function → ℕ → ℕ → Result T StoreFault → Result T StoreFault
inside_or f n N r = cond (outside n N) (Err (fault_at f n Outside)) r
