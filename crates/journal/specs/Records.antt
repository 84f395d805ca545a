-- The records of a log one after another.
use Rattle.std.specs.Prelude.{◌≡◌, ℕ, List, [], ◌∷◌, length, Some, None, Ok, Err, Option, Result}
use Rattle.std.specs.Iterator.{YieldsFirst}
use Rattle.journal.specs.declared.format.LogFault.{LogFault}
use Rattle.journal.specs.declared.reader.Reader.{Reader}
use Rattle.journal.specs.declared.records.Records.{Records}
use Rattle.requests.specs.declared.call.Call.{Call}
use Rattle.journal.specs.KeyKinds.{key_width}
use Rattle.journal.specs.Readers.{log_of, keys_of, left, KeysInside}
use Rattle.journal.specs.Readings.{Reading, ends, fails, reads}

-- what a reading tells: its records, and then the fault that it ends in, if any
abbrev pub answers : Reading → List (Result (Call ℕ) LogFault)
answers ends = []
answers (fails f) = Err f ∷ []
answers (reads r rest) = Ok r ∷ answers rest

abbrev pub answers_left : Records → List (Result (Call ℕ) LogFault)
answers_left s = answers (left s.reader)

-- the keys of a record lie whole in the log of this reader
abbrev pub ItemInside : Reader → Option (Result (Call ℕ) LogFault) → Type 0
ItemInside r (Some (Ok c)) = KeysInside (length (log_of r)) (key_width (keys_of r)) c
ItemInside r (Some (Err f)) = Unit {0}
ItemInside r None = Unit {0}

-- one step: the first of what is left, and then the others are, in the same log
pub record Tells (s : Records) (item : Option (Result (Call ℕ) LogFault)) (t : Records) : Type 0 where
  pub first : YieldsFirst answers_left s item t
  pub same_log : log_of t.reader ≡ log_of s.reader
  pub same_keys : keys_of t.reader ≡ keys_of s.reader
  pub inside : ItemInside s.reader item
