-- The two laws of the format: what is written can be read, and what is read was written.
use Rattle.std.specs.Prelude.{◌≡◌, ℕ, ◌<◌, List, [], ◌∷◌, ◌++◌, length, Some, None, Option, ◌≢◌}
use Rattle.journal.specs.declared.format.KeyKind.{KeyKind}
use Rattle.journal.specs.declared.format.RecordKind.{RecordKind}
use Rattle.journal.specs.declared.format.LogFault.{LogFault}
use Rattle.journal.specs.declared.format.LogFault.TheVariants.{Unknown, Cut}
use Rattle.keys.specs.Bytes.{AllBytes}
use Rattle.journal.specs.KeyKinds.{key_byte, key_width}
use Rattle.journal.specs.RecordKinds.{kind_byte, body_width}
use Rattle.journal.specs.Readings.{Reading, Log, refused, holds, log_reading}
use Rattle.journal.specs.Entries.{Entry, encode, AllFit, fault_of, entries_of}

-- what is written can be read: the reading of a written log has the kind of its keys, no fault, and its very entries
pub record ReadBack (keys : KeyKind) (es : List Entry) (r : Reading) : Type 0 where
  pub same_log : log_reading (encode keys es) ≡ holds keys r
  pub no_fault : fault_of r ≡ None
  pub same_entries : entries_of keys (encode keys es) r ≡ es

abbrev pub WrittenIsRead : Type 0
WrittenIsRead = (keys : KeyKind) (es : List Entry) → AllFit (key_width keys) es → (r : Reading) × ReadBack keys es r

-- what comes first stands for no kind of record; or it does, and the log ends before its body does
abbrev pub UnknownFirst : List ℕ → Type 0
UnknownFirst [] = ⊥
UnknownFirst (b ∷ bs) = (k : RecordKind) → b ≢ kind_byte k

abbrev pub CutFirst : KeyKind → List ℕ → Type 0
CutFirst keys [] = ⊥
CutFirst keys (b ∷ bs) = (k : RecordKind) × ((b ≡ kind_byte k) × (length bs < body_width keys k))

-- how a log goes on from a place after its entries, by the fault that its reading ends in
abbrev pub GoesOn : KeyKind → ℕ → List ℕ → Option LogFault → Type 0
GoesOn keys place rest None = rest ≡ []
GoesOn keys place rest (Some (Unknown byte)) = (byte ≡ place) × UnknownFirst rest
GoesOn keys place rest (Some (Cut byte)) = (byte ≡ place) × CutFirst keys rest

-- what is read was written: the log is the writing of the entries read, then nothing, or what the fault says at that very place
pub record Written (keys : KeyKind) (bs : List ℕ) (r : Reading) (rest : List ℕ) : Type 0 where
  pub all_fit : AllFit (key_width keys) (entries_of keys bs r)
  pub same_bytes : bs ≡ encode keys (entries_of keys bs r) ++ rest
  pub goes_on : GoesOn keys (length (encode keys (entries_of keys bs r))) rest (fault_of r)

-- a log whose first byte cannot be read: there is none, or it stands for no kind of keys
abbrev pub NoHeader : List ℕ → LogFault → Type 0
NoHeader [] f = f ≡ Cut 0
NoHeader (b ∷ bs) f = (f ≡ Unknown 0) × ((k : KeyKind) → b ≢ key_byte k)

abbrev pub Accounted : List ℕ → Log → Type 0
Accounted bs (refused f) = NoHeader bs f
Accounted bs (holds keys r) = (rest : List ℕ) × Written keys bs r rest

abbrev pub ReadWasWritten : Type 0
ReadWasWritten = (bs : List ℕ) → AllBytes bs → Accounted bs (log_reading bs)
