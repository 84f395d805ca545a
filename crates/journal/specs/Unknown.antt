-- What a conversion of a byte answers.
use Rattle.std.specs.Prelude.{◌≡◌, ℕ, Option, Result, ok_or}
use Rattle.journal.specs.declared.format.UnknownByte.{UnknownByte}

-- the kind that the byte stands for, or else the byte itself, as unknown
abbrev pub known : {K : Type 0} → (ℕ → Option K) → ℕ → Result K UnknownByte → Type 0
known kind_of byte result = result ≡ ok_or (kind_of byte) (record { 0 = byte })
