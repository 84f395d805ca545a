-- Logs as they are written: an entry is a record with the very bytes of its keys, and a log is made of entries one after the other.
use Rattle.std.specs.Prelude.{◌≡◌, ℕ, ◌^◌, ◌<◌, List, [], ◌∷◌, ◌++◌, map, length, take, drop, Some, None, Option}
use Rattle.journal.specs.declared.format.KeyKind.{KeyKind}
use Rattle.journal.specs.declared.format.RecordKind.{RecordKind}
use Rattle.journal.specs.declared.format.RecordKind.TheVariants as kind
use Rattle.requests.specs.declared.call.Call.{Call}
use Rattle.requests.specs.declared.call.Call.TheVariants.{Put, Drop, Split, Advance, Open, Step, Close, Counts}
use Rattle.requests.specs.Keys.{map_keys}
use Rattle.journal.specs.declared.format.LogFault.{LogFault}
use Rattle.keys.specs.Bytes.{bytes}
use Rattle.journal.specs.KeyKinds.{key_byte, key_width}
use Rattle.journal.specs.RecordKinds.{kind_byte}
use Rattle.journal.specs.Readings.{Reading, ends, fails, reads}

-- one entry of a log: keys are lists of bytes
abbrev pub Entry : Type 0
Entry = Call (List ℕ)

abbrev pub entry_kind : Entry → RecordKind
entry_kind (Put low high rows) = kind.Put
entry_kind (Drop key) = kind.Drop
entry_kind (Split key lower upper) = kind.Split
entry_kind Advance = kind.Advance
entry_kind (Open session key) = kind.Open
entry_kind (Step session) = kind.Step
entry_kind (Close session) = kind.Close
entry_kind Counts = kind.Counts

-- what follows the kind byte
abbrev pub entry_body : Entry → List ℕ
entry_body (Put low high rows) = low ++ (high ++ bytes 8 rows)
entry_body (Drop key) = key
entry_body (Split key lower upper) = key ++ (bytes 8 lower ++ bytes 8 upper)
entry_body Advance = []
entry_body (Open session key) = session ∷ key
entry_body (Step session) = session ∷ []
entry_body (Close session) = session ∷ []
entry_body Counts = []

-- an entry is its kind byte and its body; entries follow one another
abbrev pub entries_bytes : List Entry → List ℕ
entries_bytes [] = []
entries_bytes (e ∷ es) = kind_byte (entry_kind e) ∷ (entry_body e ++ entries_bytes es)

-- a log: the byte of its kind of keys, then the entries
abbrev pub encode : KeyKind → List Entry → List ℕ
encode keys es = key_byte keys ∷ entries_bytes es

-- keys are w bytes wide, and rows are numbers of 64 bits
abbrev pub Fits : ℕ → Entry → Type 0
Fits w (Put low high rows) = (length low ≡ w) × (length high ≡ w) × (rows < 2 ^ 64)
Fits w (Drop key) = length key ≡ w
Fits w (Split key lower upper) = (length key ≡ w) × (lower < 2 ^ 64) × (upper < 2 ^ 64)
Fits w Advance = Unit {0}
Fits w (Open session key) = length key ≡ w
Fits w (Step session) = Unit {0}
Fits w (Close session) = Unit {0}
Fits w Counts = Unit {0}

abbrev pub AllFit : ℕ → List Entry → Type 0
AllFit w [] = Unit {0}
AllFit w (e ∷ es) = Fits w e × AllFit w es

-- the key of w bytes that begins at a place of a log
abbrev pub key_at : ℕ → List ℕ → ℕ → List ℕ
key_at w bs place = take w (drop place bs)

-- a record with the bytes of its keys filled in from the log
abbrev pub filled : ℕ → List ℕ → Call ℕ → Entry
filled w bs = map_keys (key_at w bs)

-- the records of a reading, and the fault that it ends in, if any
abbrev pub records_of : Reading → List (Call ℕ)
records_of ends = []
records_of (fails f) = []
records_of (reads r rest) = r ∷ records_of rest

abbrev pub fault_of : Reading → Option LogFault
fault_of ends = None
fault_of (fails f) = Some f
fault_of (reads r rest) = fault_of rest

-- the entries that a reading of a log tells
abbrev pub entries_of : KeyKind → List ℕ → Reading → List Entry
entries_of keys bs r = map (filled (key_width keys) bs) (records_of r)
