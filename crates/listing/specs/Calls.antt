-- The records of a log with their keys read.
use Rattle.std.specs.Prelude.{ℕ, List, Some, None, Option}
use Rattle.journal.specs.declared.format.KeyKind.{KeyKind}
use Rattle.journal.specs.declared.format.KeyKind.TheVariants as kind
use Rattle.requests.specs.declared.call.Call.{Call}
use Rattle.requests.specs.Keys.{map_keys}
use Rattle.journal.specs.KeyKinds.{key_width}
use Rattle.journal.specs.Entries.{key_at}
use Rattle.keys.specs.Wholes.{whole_of}
use Rattle.keys.specs.Decimals.{decimal_of, decimal_fault}
use Rattle.keys.specs.Texts.{text_of, text_fault}
use Rattle.listing.specs.declared.call.AnyFault.{AnyFault}
use Rattle.listing.specs.declared.call.AnyFault.TheVariants as faulty
use Rattle.listing.specs.declared.call.AnyKey.{AnyKey}
use Rattle.listing.specs.declared.call.AnyKey.TheVariants.{Whole, Decimal, Text}

-- the key of a kind whose body these bytes are
abbrev pub key_of : KeyKind → List ℕ → AnyKey
key_of kind.Whole bs = Whole (whole_of bs)
key_of kind.Decimal bs = Decimal (decimal_of bs)
key_of kind.Text bs = Text (text_of bs)

-- the key whose body begins at a place of a log
abbrev pub key_at_place : KeyKind → List ℕ → ℕ → AnyKey
key_at_place keys log place = key_of keys (key_at (key_width keys) log place)

-- the fault of a key of any kind, by its kind's rule
abbrev pub as_any : {F : Type 0} → (F → AnyFault) → Option F → Option AnyFault
as_any kind None = None
as_any kind (Some f) = Some (kind f)

abbrev pub any_fault : AnyKey → Option AnyFault
any_fault (Whole k) = None
any_fault (Decimal k) = as_any faulty.Decimal (decimal_fault k)
any_fault (Text k) = as_any faulty.Text (text_fault k)

-- the call that a record asks for
abbrev pub call_of : KeyKind → List ℕ → Call ℕ → Call AnyKey
call_of keys log = map_keys (key_at_place keys log)
