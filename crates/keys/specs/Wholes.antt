-- Whole keys: signed numbers of 64 bits.
use Rattle.std.specs.Prelude.{ℕ, List, pos, None, Option}
use Rattle.std.specs.Fmt.{signed_decimal}
use Rattle.std.specs.declared.convert.Infallible.{Infallible}
use Rattle.std.specs.declared.cmp.Ordering.{Ordering}
use Rattle.keys.specs.declared.whole.Whole.{Whole}
use Rattle.keys.specs.Orders.{orderℤ}
use Rattle.keys.specs.Bytes.{signed_bytes, signed_number}

-- a whole key is never ill formed
abbrev pub whole_fault : Whole → Option Infallible
whole_fault k = None

abbrev pub whole_order : Whole → Whole → Ordering
whole_order a b = orderℤ a.0 b.0

abbrev pub whole_filler : Whole
whole_filler = record { 0 = pos 0 }

-- the number in two's complement, highest byte first
abbrev pub whole_body : Whole → List ℕ
whole_body k = signed_bytes k.0

abbrev pub whole_of : List ℕ → Whole
whole_of bs = record { 0 = signed_number bs }

-- what is printed: decimal digits, a hyphen before a negative number
abbrev pub whole_shown : Whole → List ℕ
whole_shown k = signed_decimal k.0
