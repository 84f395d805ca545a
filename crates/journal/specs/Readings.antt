-- What the bytes of a log say: record after record, and then an end or a fault.
use Rattle.std.specs.Prelude.{ℕ, zero, suc, ◌+◌, ◌*◌, cond, List, [], ◌∷◌, length, Some, None, Ok, Err, Option, Result, nat_lt, slice_index}
use Rattle.journal.specs.declared.format.KeyKind.{KeyKind}
use Rattle.journal.specs.declared.format.RecordKind.{RecordKind}
use Rattle.journal.specs.declared.format.RecordKind.TheVariants as kind
use Rattle.requests.specs.declared.call.Call.{Call}
use Rattle.requests.specs.declared.call.Call.TheVariants.{Put, Drop, Split, Advance, Open, Step, Close, Counts}
use Rattle.journal.specs.declared.format.LogFault.{LogFault}
use Rattle.journal.specs.declared.format.LogFault.TheVariants.{Unknown, Cut}
use Rattle.keys.specs.Bytes.{number}
use Rattle.journal.specs.KeyKinds.{key_width, key_kind}
use Rattle.journal.specs.RecordKinds.{record_kind, body_width}

-- the records of a log in their order, and how it ends
pub data Reading : Type 0 where
  ends : Reading
  fails : LogFault → Reading
  reads : Call ℕ → Reading → Reading

-- the record of a kind whose body is the first of these bytes, and begins at this place of the log:
-- a key is told by its place, a session is a byte, rows are a number of 8 bytes
abbrev pub record_of : KeyKind → RecordKind → ℕ → List ℕ → Call ℕ
record_of keys kind.Put place body = Put place (place + key_width keys) (number 8 (2 * key_width keys) body)
record_of keys kind.Drop place body = Drop place
record_of keys kind.Split place body = Split place (number 8 (key_width keys) body) (number 8 (key_width keys + 8) body)
record_of keys kind.Advance place body = Advance
record_of keys kind.Open place body = Open (slice_index body 0) (place + 1)
record_of keys kind.Step place body = Step (slice_index body 0)
record_of keys kind.Close place body = Close (slice_index body 0)
record_of keys kind.Counts place body = Counts

-- what follows a kind byte at this place: no kind is a fault, and so are too few bytes for the body;
-- else there is a record, and `after n` is what the log says once n bytes of body have been passed over
abbrev pub from_kind : KeyKind → ℕ → Option RecordKind → List ℕ → (ℕ → Reading) → Reading
from_kind keys place None body after = fails (Unknown place)
from_kind keys place (Some k) body after =
    cond (nat_lt (length body) (body_width keys k)) (fails (Cut place)) (reads (record_of keys k (place + 1) body) (after (body_width keys k)))

-- what these bytes say, which begin at this place of the log, and of which the first n belong to the body of a record already told
abbrev pub reading : KeyKind → ℕ → ℕ → List ℕ → Reading
reading keys place n [] = ends
reading keys place zero (b ∷ bs) = from_kind keys place (record_kind b) bs (λ n. reading keys (place + 1) n bs)
reading keys place (suc n) (b ∷ bs) = reading keys (place + 1) n bs

-- what a reader answers first, and what it has yet to read then: at the end and at a fault it stays
abbrev pub first_of : Reading → Result (Option (Call ℕ)) LogFault
first_of ends = Ok None
first_of (fails f) = Err f
first_of (reads r rest) = Ok (Some r)

abbrev pub rest_of : Reading → Reading
rest_of ends = ends
rest_of (fails f) = fails f
rest_of (reads r rest) = rest

-- how many records an answer holds, and how many a reading does: each record that is read leaves one fewer to read
abbrev pub records_told : Result (Option (Call ℕ)) LogFault → ℕ
records_told (Ok None) = 0
records_told (Ok (Some r)) = 1
records_told (Err f) = 0

abbrev pub records_left : Reading → ℕ
records_left ends = 0
records_left (fails f) = 0
records_left (reads r rest) = records_left rest + 1

-- what a whole log says: the kind of its keys and the reading of what follows, or why not even its first byte can be read
pub data Log : Type 0 where
  refused : LogFault → Log
  holds : KeyKind → Reading → Log

abbrev pub from_key_kind : Option KeyKind → List ℕ → Log
from_key_kind None bs = refused (Unknown 0)
from_key_kind (Some k) bs = holds k (reading k 1 0 bs)

abbrev pub log_reading : List ℕ → Log
log_reading [] = refused (Cut 0)
log_reading (b ∷ bs) = from_key_kind (key_kind b) bs
