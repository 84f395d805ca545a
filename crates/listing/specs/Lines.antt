-- What is printed of a log.
use Rattle.std.specs.Prelude.{ℕ, List, [], ◌++◌, Some, None, codes, decimal, Option}
use Rattle.keys.specs.Wholes.{whole_shown}
use Rattle.keys.specs.Decimals.{decimal_shown, decimal_fault_shown}
use Rattle.keys.specs.Texts.{text_shown, text_fault_shown}
use Rattle.listing.specs.declared.call.AnyFault.{AnyFault}
use Rattle.listing.specs.declared.call.AnyFault.TheVariants as faulty
use Rattle.listing.specs.declared.call.AnyKey.{AnyKey}
use Rattle.listing.specs.declared.call.AnyKey.TheVariants.{Whole, Decimal, Text}
use Rattle.requests.specs.declared.call.Call.{Call}
use Rattle.requests.specs.declared.call.Call.TheVariants as call
use Rattle.listing.specs.Calls.{any_fault}

-- a key as its kind prints it
abbrev pub key_shown : AnyKey → List ℕ
key_shown (Whole k) = whole_shown k
key_shown (Decimal k) = decimal_shown k
key_shown (Text k) = text_shown k

abbrev pub any_fault_shown : AnyFault → List ℕ
any_fault_shown (faulty.Decimal f) = decimal_fault_shown f
any_fault_shown (faulty.Text f) = text_fault_shown f

-- behind the fields: nothing of a well-formed key, else the argument that it is and its fault
abbrev pub noted : List ℕ → Option AnyFault → List ℕ
noted argument None = []
noted argument (Some f) = codes " ill-formed " ++ (argument ++ (codes " " ++ any_fault_shown f))

abbrev pub note_shown : List ℕ → AnyKey → List ℕ
note_shown argument key = noted argument (any_fault key)

abbrev pub key_note : AnyKey → List ℕ
key_note key = note_shown (codes "key") key

-- the record's name, its fields, and the notes on its keys
abbrev pub call_shown : Call AnyKey → List ℕ
call_shown (call.Put low high rows) =
    codes "put " ++ (key_shown low ++ (codes " " ++ (key_shown high ++ (codes " " ++ (decimal rows ++ (note_shown (codes "low") low ++ note_shown (codes "high") high))))))
call_shown (call.Drop key) = codes "drop " ++ (key_shown key ++ key_note key)
call_shown (call.Split key lower upper) =
    codes "split " ++ (key_shown key ++ (codes " " ++ (decimal lower ++ (codes " " ++ (decimal upper ++ key_note key)))))
call_shown call.Advance = codes "advance"
call_shown (call.Open session key) = codes "open " ++ (decimal session ++ (codes " " ++ (key_shown key ++ key_note key)))
call_shown (call.Step session) = codes "step " ++ decimal session
call_shown (call.Close session) = codes "close " ++ decimal session
call_shown call.Counts = codes "counts"
