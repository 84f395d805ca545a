-- The kinds of records: the first byte of a record tells its kind, and the kind how many bytes follow.
use Rattle.std.specs.Prelude.{ℕ, ◌+◌, ◌*◌, List, [], ◌∷◌, Option, find, ◌==◌}
use Rattle.journal.specs.declared.format.KeyKind.{KeyKind}
use Rattle.journal.specs.declared.format.RecordKind.{RecordKind}
use Rattle.journal.specs.declared.format.RecordKind.TheVariants.{Put, Drop, Split, Advance, Open, Step, Close, Counts}
use Rattle.journal.specs.KeyKinds.{key_width}

-- the byte of each kind
abbrev pub kind_byte : RecordKind → ℕ
kind_byte Put = 1
kind_byte Drop = 2
kind_byte Split = 3
kind_byte Advance = 4
kind_byte Open = 5
kind_byte Step = 6
kind_byte Close = 7
kind_byte Counts = 8

abbrev pub record_kinds : List RecordKind
record_kinds = Put ∷ Drop ∷ Split ∷ Advance ∷ Open ∷ Step ∷ Close ∷ Counts ∷ []

-- the kind that a byte stands for
abbrev pub record_kind : ℕ → Option RecordKind
record_kind b = find (λ k. b == kind_byte k) record_kinds

-- how many bytes follow the kind byte: a number of rows has 8, a session 1, a key what its kind says
abbrev pub body_width : KeyKind → RecordKind → ℕ
body_width keys Put = 2 * key_width keys + 8
body_width keys Drop = key_width keys
body_width keys Split = key_width keys + 16
body_width keys Advance = 0
body_width keys Open = 1 + key_width keys
body_width keys Step = 1
body_width keys Close = 1
body_width keys Counts = 0
