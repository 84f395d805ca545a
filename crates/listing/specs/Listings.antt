-- What is printed of a whole log.
use Rattle.std.specs.Prelude.{ℕ, ◌+◌, List, [], ◌∷◌, ◌++◌, codes, decimal}
use Rattle.journal.specs.declared.format.KeyKind.{KeyKind}
use Rattle.requests.specs.declared.call.Call.{Call}
use Rattle.journal.specs.Faults.{fault_shown}
use Rattle.journal.specs.Readings.{Reading, ends, fails, reads, Log, refused, holds, log_reading}
use Rattle.listing.specs.declared.tally.Tally.{Tally}
use Rattle.listing.specs.Calls.{call_of}
use Rattle.listing.specs.Lines.{call_shown}
use Rattle.listing.specs.Tallies.{none_counted, counted, tally_shown}

-- ends each line
abbrev pub newline : List ℕ
newline = 10 ∷ []

-- the line of the record with this number
abbrev pub record_line : KeyKind → List ℕ → ℕ → Call ℕ → List ℕ
record_line keys log number r = decimal number ++ (codes " " ++ (call_shown (call_of keys log r) ++ newline))

-- the line behind the last record
abbrev pub closing_line : ℕ → Tally → List ℕ
closing_line n t = decimal n ++ (codes " records: " ++ (tally_shown t ++ newline))

-- a line for each record that is yet to be read, after n of them with these counts; then the closing line, or that of the fault
abbrev pub all_lines : KeyKind → List ℕ → ℕ → Tally → Reading → List ℕ
all_lines keys log n t ends = closing_line n t
all_lines keys log n t (fails f) = fault_shown f ++ newline
all_lines keys log n t (reads r rest) = record_line keys log (n + 1) r ++ all_lines keys log (n + 1) (counted r t) rest

abbrev pub log_lines : List ℕ → Log → List ℕ
log_lines log (refused f) = fault_shown f ++ newline
log_lines log (holds keys r) = all_lines keys log 0 none_counted r

abbrev pub listed : List ℕ → List ℕ
listed log = log_lines log (log_reading log)
