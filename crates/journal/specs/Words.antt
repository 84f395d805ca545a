-- The words that name the kinds of keys.
use Rattle.std.specs.Prelude.{◌≡◌, ℕ, List, codes}
use Rattle.journal.specs.declared.format.KeyKind.{KeyKind}
use Rattle.journal.specs.declared.format.KeyKind.TheVariants as kind

-- the word of each kind of keys
abbrev pub KindNamed : List ℕ → KeyKind → Type 0
KindNamed word kind.Whole = word ≡ codes "whole"
KindNamed word kind.Decimal = word ≡ codes "decimal"
KindNamed word kind.Text = word ≡ codes "text"

abbrev pub NoKindNamed : List ℕ → Type 0
NoKindNamed word = (k : KeyKind) → KindNamed word k → ⊥
