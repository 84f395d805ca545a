-- Text keys: at most 16 bytes.
use Rattle.std.specs.Prelude.{ℕ, zero, suc, ◌+◌, ◌/◌, ◌%◌, cond, List, [], ◌∷◌, ◌++◌, take, drop, replicate, Some, None, codes, decimal, Option, ◌==◌, nat_lt, slice_index}
use Rattle.std.specs.declared.cmp.Ordering.{Ordering}
use Rattle.keys.specs.declared.text.Text.{Text}
use Rattle.keys.specs.declared.text.TextFault.{TextFault}
use Rattle.keys.specs.declared.text.TextFault.TheVariants.{Length, Stray}
use Rattle.keys.specs.Orders.{first_fault, orderℕ}

abbrev pub length_fault : ℕ → Option TextFault
length_fault n = cond (nat_lt 16 n) (Some (Length n)) None

-- the first byte that is not zero, where the list begins at a place
abbrev pub stray_fault : ℕ → List ℕ → Option TextFault
stray_fault place [] = None
stray_fault place (b ∷ bs) = cond (b == 0) (stray_fault (place + 1) bs) (Some (Stray place b))

-- the length's fault before that of a byte past the length
abbrev pub text_fault : Text → Option TextFault
text_fault t = first_fault (length_fault t.len) (stray_fault t.len (drop t.len t.bytes))

-- what is said of a fault: the cause, and the values that it has
abbrev pub text_fault_shown : TextFault → List ℕ
text_fault_shown (Length n) = codes "length " ++ decimal n
text_fault_shown (Stray place b) = codes "byte " ++ (decimal b ++ (codes " at " ++ decimal place))

-- the bytes that count
abbrev pub text_bytes : Text → List ℕ
text_bytes t = take t.len t.bytes

-- the first place at which two lists differ: their bytes do, or one list has ended
abbrev pub first_difference : List ℕ → List ℕ → ℕ
first_difference [] ys = 0
first_difference (x ∷ xs) [] = 0
first_difference (x ∷ xs) (y ∷ ys) = cond (x == y) (suc (first_difference xs ys)) 0

-- one more than the byte at a place, and 0 where the list has ended: an end is below any byte
abbrev pub rank : List ℕ → ℕ → ℕ
rank [] i = 0
rank (x ∷ xs) zero = suc x
rank (x ∷ xs) (suc i) = rank xs i

-- the first difference decides
unfoldable pub order_bytes : List ℕ → List ℕ → Ordering
order_bytes a b = orderℕ (rank a (first_difference a b)) (rank b (first_difference a b))

abbrev pub text_order : Text → Text → Ordering
text_order a b = order_bytes (text_bytes a) (text_bytes b)

abbrev pub text_filler : Text
text_filler = record { len = 0; bytes = replicate 16 0 }

-- the length, then the 16 bytes
abbrev pub text_body : Text → List ℕ
text_body t = t.len ∷ t.bytes

abbrev pub text_of : List ℕ → Text
text_of bs = record { len = slice_index bs 0; bytes = drop 1 bs }

-- 0 to 9, then a to f
abbrev pub hex_digit : ℕ → ℕ
hex_digit d = cond (nat_lt d 10) (48 + d) (87 + d)

-- two digits a byte
abbrev pub hex : List ℕ → List ℕ
hex [] = []
hex (b ∷ bs) = hex_digit (b / 16) ∷ hex_digit (b % 16) ∷ hex bs

-- what is printed: two hexadecimal digits a byte, a hyphen for no bytes
abbrev pub hex_shown : List ℕ → List ℕ
hex_shown [] = codes "-"
hex_shown (b ∷ bs) = hex (b ∷ bs)

abbrev pub text_shown : Text → List ℕ
text_shown t = hex_shown (text_bytes t)
