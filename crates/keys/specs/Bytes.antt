-- Numbers as bytes, highest first.
use Rattle.std.specs.Prelude.{ℕ, zero, suc, ◌+◌, ◌*◌, ◌/◌, ◌%◌, ◌^◌, ◌<◌, List, [], ◌∷◌, ℤ, slice_index}
use Rattle.std.proofs.Common.{of_z, to_z}
use Rattle.std.specs.Int.{w64}

-- every number of the list is a byte
abbrev pub AllBytes : List ℕ → Type 0
AllBytes bs = (i : ℕ) → slice_index bs i < 256

-- the k lowest bytes of n
abbrev pub bytes : ℕ → ℕ → List ℕ
bytes zero n = []
bytes (suc k) n = (n / 256 ^ k % 256) ∷ bytes k n

-- the number that the k bytes from place i on write
abbrev pub number : ℕ → ℕ → List ℕ → ℕ
number zero i bs = 0
number (suc k) i bs = slice_index bs i * 256 ^ k + number k (suc i) bs

-- a signed number of 64 bits in two's complement, and the one that eight bytes write
unfoldable pub signed_bytes : ℤ → List ℕ
signed_bytes z = bytes 8 (of_z w64 z)

unfoldable pub signed_number : List ℕ → ℤ
signed_number bs = to_z w64 (number 8 0 bs)
