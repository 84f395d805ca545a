-- What a reader has yet to read.
use Rattle.std.specs.Prelude.{ℕ, ◌+◌, ◌≤◌, List, drop, Some, None, Ok, Err, Option, Result}
use Rattle.journal.specs.declared.format.KeyKind.{KeyKind}
use Rattle.journal.specs.declared.format.LogFault.{LogFault}
use Rattle.journal.specs.declared.reader.Reader.{Reader}
use Rattle.requests.specs.declared.call.Call.{Call}
use Rattle.requests.specs.Keys.{EachKey}
use Rattle.journal.specs.Readings.{Reading, reading, Log, refused, holds}

-- the bytes of its log
abbrev pub log_of : Reader → List ℕ
log_of r = r.log.now

-- the kind of its keys
abbrev pub keys_of : Reader → KeyKind
keys_of r = r.keys

-- what its log says from its place on
abbrev pub left : Reader → Reading
left r = reading r.keys r.at 0 (drop r.at r.log.now)

-- what the making of a reader tells of a log
abbrev pub told : Result Reader LogFault → Log
told (Ok r) = holds (keys_of r) (left r)
told (Err f) = refused f

-- a key that begins at this place lies whole in a log of n bytes, where keys are w bytes wide
abbrev pub KeyInside : ℕ → ℕ → ℕ → Type 0
KeyInside n w place = place + w ≤ n

-- so do all keys of a record
abbrev pub KeysInside : ℕ → ℕ → Call ℕ → Type 0
KeysInside n w = EachKey (KeyInside n w)

-- and of the record that an answer tells, if it tells one
abbrev pub AnswerInside : ℕ → ℕ → Result (Option (Call ℕ)) LogFault → Type 0
AnswerInside n w (Ok None) = Unit {0}
AnswerInside n w (Ok (Some r)) = KeysInside n w r
AnswerInside n w (Err f) = Unit {0}
