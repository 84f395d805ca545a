-- The kinds of keys: the first byte of a log tells which one its keys have.
use Rattle.std.specs.Prelude.{ℕ, List, [], ◌∷◌, Option, find, ◌==◌}
use Rattle.journal.specs.declared.format.KeyKind.{KeyKind}
use Rattle.journal.specs.declared.format.KeyKind.TheVariants.{Whole, Decimal, Text}

-- the byte of each kind
abbrev pub key_byte : KeyKind → ℕ
key_byte Whole = 1
key_byte Decimal = 2
key_byte Text = 3

-- how many bytes the body of a key has
abbrev pub key_width : KeyKind → ℕ
key_width Whole = 8
key_width Decimal = 9
key_width Text = 17

abbrev pub key_kinds : List KeyKind
key_kinds = Whole ∷ Decimal ∷ Text ∷ []

-- the kind that a byte stands for
abbrev pub key_kind : ℕ → Option KeyKind
key_kind b = find (λ k. b == key_byte k) key_kinds
