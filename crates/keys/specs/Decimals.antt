-- Decimal keys: a coefficient and a scale, which mean coefficient / 10^scale.
use Rattle.std.specs.Prelude.{ℕ, ◌-◌, ◌^◌, cond, ◌||◌, List, ◌∷◌, ◌++◌, drop, ℤ, pos, negsuc, ◌*ℤ◌, Some, None, codes, decimal, Option, int_lt, nat_lt, slice_index}
use Rattle.std.specs.Fmt.{signed_decimal}
use Rattle.std.specs.declared.cmp.Ordering.{Ordering}
use Rattle.keys.specs.declared.decimal.Decimal.{Decimal}
use Rattle.keys.specs.declared.decimal.DecimalFault.{DecimalFault}
use Rattle.keys.specs.declared.decimal.DecimalFault.TheVariants.{Coefficient, Scale}
use Rattle.keys.specs.Bytes.{signed_bytes, signed_number}
use Rattle.keys.specs.Orders.{first_fault, orderℤ}

-- the lowest coefficient, −999,999,999
abbrev pub lowest : ℤ
lowest = negsuc 999999998

abbrev pub highest : ℤ
highest = pos 999999999

abbrev pub coefficient_fault : ℤ → Option DecimalFault
coefficient_fault c = cond (int_lt c lowest || int_lt highest c) (Some (Coefficient c)) None

abbrev pub scale_fault : ℕ → Option DecimalFault
scale_fault s = cond (nat_lt 9 s) (Some (Scale s)) None

-- the coefficient's fault before the scale's
abbrev pub decimal_fault : Decimal → Option DecimalFault
decimal_fault k = first_fault (coefficient_fault k.coefficient) (scale_fault k.scale)

-- what is said of a fault: the cause, and the value that it has
abbrev pub decimal_fault_shown : DecimalFault → List ℕ
decimal_fault_shown (Coefficient c) = codes "coefficient " ++ signed_decimal c
decimal_fault_shown (Scale s) = codes "scale " ++ decimal s

-- the key's value in units of 10^−9
unfoldable pub scaled : Decimal → ℤ
scaled k = k.coefficient *ℤ pos (10 ^ (9 - k.scale))

abbrev pub decimal_order : Decimal → Decimal → Ordering
decimal_order a b = orderℤ (scaled a) (scaled b)

abbrev pub decimal_filler : Decimal
decimal_filler = record { scale = 0; coefficient = pos 0 }

-- the scale, then the coefficient
abbrev pub decimal_body : Decimal → List ℕ
decimal_body k = k.scale ∷ signed_bytes k.coefficient

abbrev pub decimal_of : List ℕ → Decimal
decimal_of bs = record { scale = slice_index bs 0; coefficient = signed_number (drop 1 bs) }

-- what is printed: coefficient, slash, scale
abbrev pub decimal_shown : Decimal → List ℕ
decimal_shown k = signed_decimal k.coefficient ++ (codes "/" ++ decimal k.scale)
