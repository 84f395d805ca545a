-- Eight bytes and the signed number that they write give each other back.
use Rattle.std.proofs.Common.{◌≡◌, ℕ, ◌^◌, ◌<◌, List, length, ℤ, ap, ◌∙◌, mod-eq_of_lt, w64, SFits, to_z, of_z}
use mir.Facts.{Fits-of_z}
use Rattle.std.proofs.lemmas.Int.{to_z-of_z, of_z-to_z}
use Rattle.keys.specs.Bytes.{AllBytes, bytes, number, signed_bytes, signed_number}
use Rattle.keys.proofs.Numbers.{number_bytes, number_lt, bytes_number}

pub bytes_again : (r : ℤ) (bs : List ℕ) → r ≡ signed_number bs → length bs ≡ 8 → AllBytes bs → signed_bytes r ≡ bs
unfolding signed_bytes signed_number
bytes_again r bs e l s =
    ap signed_bytes e ∙ ap (bytes 8) (of_z-to_z w64 (number 8 0 bs) (number_lt 8 bs l s)) ∙ bytes_number 8 bs l s

pub number_back : (z : ℤ) → SFits w64 z → signed_number (signed_bytes z) ≡ z
unfolding signed_bytes signed_number
number_back z f =
    let small : of_z w64 z < 2 ^ 64 = (Fits-of_z f).fits in
    ap (to_z w64) (number_bytes 8 (of_z w64 z) ∙ mod-eq_of_lt small) ∙ to_z-of_z w64 z f
