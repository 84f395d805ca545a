-- One turn of the listing, and how many records a log can have.
use Rattle.std.proofs.Common.{◌≡◌, ℕ, zero, suc, ◌+◌, ◌≤◌, Bool, true, false, cond, ltb, List, [], ◌∷◌, ◌++◌, length, IfOk, Some, None, Ok, Err, Option, Result, refl, ap, ◌∙◌, append_assoc, arith}
use Rattle.std.proofs.lemmas.Result.{IfOk-weaker}
use Rattle.journal.specs.declared.format.KeyKind.{KeyKind}
use Rattle.journal.specs.declared.format.LogFault.{LogFault}
use Rattle.requests.specs.declared.call.Call.{Call}
use Rattle.requests.specs.declared.call.Call.TheVariants.{Put, Drop, Split, Advance, Open, Step, Close, Counts}
use Rattle.journal.specs.declared.format.RecordKind.{RecordKind}
use Rattle.journal.specs.KeyKinds.{key_kind}
use Rattle.journal.specs.RecordKinds.{record_kind, body_width}
use Rattle.journal.specs.Readings.{Reading, ends, fails, reads, records_left, reading, from_kind, holds, from_key_kind, log_reading}
use Rattle.listing.specs.declared.tally.Tally.{Tally}
use Rattle.listing.specs.Tallies.{total, counted}
use Rattle.journal.specs.Faults.{fault_shown}
use Rattle.journal.specs.Records.{answers}
use Rattle.listing.specs.Listings.{newline, all_lines, record_line, closing_line}

never : {P : Type 0} → ◌≡◌ {A = ℕ} 0 1 → P
never e = let w : ⊥ = omega arith in elim w [ ]

-- the lines of what a log tells, after n records with these counts
abbrev pub lines_of : KeyKind → List ℕ → ℕ → Tally → List (Result (Call ℕ) LogFault) → List ℕ
lines_of keys log n t [] = closing_line n t
lines_of keys log n t (Err f ∷ more) = fault_shown f ++ newline
lines_of keys log n t (Ok r ∷ more) = record_line keys log (n + 1) r ++ lines_of keys log (n + 1) (counted r t) more

pub lines_told : (keys : KeyKind) (log : List ℕ) (n : ℕ) (t : Tally) (x : Reading) → lines_of keys log n t (answers x) ≡ all_lines keys log n t x
lines_told keys log n t ends = refl
lines_told keys log n t (fails f) = refl
lines_told keys log n t (reads r rest) = ap (λ l. record_line keys log (n + 1) r ++ l) (lines_told keys log (n + 1) (counted r t) rest)

-- a fault may be told beside the records
pub few_answers : (x : Reading) → length (answers x) ≤ records_left x + 1
few_answers ends = omega arith
few_answers (fails f) = omega arith
few_answers (reads r rest) = omega (arith, few_answers rest)

-- the lines before and after a record is read
pub one_more : (keys : KeyKind) (log : List ℕ) (n m : ℕ) (t u : Tally) (told more : List (Result (Call ℕ) LogFault)) (a : Result (Call ℕ) LogFault) (r : Call ℕ) (out now : List ℕ) →
    told ≡ a ∷ more → a ≡ Ok r → m ≡ n + 1 → u ≡ counted r t → now ≡ out ++ record_line keys log (n + 1) r →
    now ++ lines_of keys log m u more ≡ out ++ lines_of keys log n t told
one_more keys log n m t u told more a r out now ea er em eu en =
    rw (en, em, eu, ea, er) (append_assoc out (record_line keys log (n + 1) r) (lines_of keys log (n + 1) (counted r t) more))

pub at_fault : (keys : KeyKind) (log : List ℕ) (n : ℕ) (t : Tally) (told more : List (Result (Call ℕ) LogFault)) (a : Result (Call ℕ) LogFault) (f : LogFault) →
    told ≡ a ∷ more → a ≡ Err f → lines_of keys log n t told ≡ fault_shown f ++ newline
at_fault keys log n t told more a f ea ef = rw (ea, ef) refl

pub one_fewer : (told more : List (Result (Call ℕ) LogFault)) (a : Result (Call ℕ) LogFault) → told ≡ a ∷ more → length told ≡ length more + 1
one_fewer told more a e = rw e (omega arith)

-- what a writing made, under another name
pub made_as : {X Y : Type 0} (r : Result X Y) (a b d : List ℕ) → b ≡ d → IfOk r (λ _. a ≡ b) → IfOk r (λ _. a ≡ d)
made_as r a b d e h = IfOk-weaker r (λ _. a ≡ b) (λ _. a ≡ d) (λ _ p. p ∙ e) h

pub total_counted : (r : Call ℕ) (t : Tally) → total (counted r t) ≡ total t + 1
total_counted (Put low high rows) t = omega arith
total_counted (Drop place) t = omega arith
total_counted (Split place lower upper) t = omega arith
total_counted Advance t = omega arith
total_counted (Open session place) t = omega arith
total_counted (Step session) t = omega arith
total_counted (Close session) t = omega arith
total_counted Counts t = omega arith

-- how many records follow a kind byte
few_after : (b : Bool) (f : LogFault) (r : Call ℕ) (rest : Reading) (n : ℕ) → records_left rest ≤ n → records_left (cond b (fails f) (reads r rest)) ≤ n + 1
few_after true f r rest n h = omega arith
few_after false f r rest n h = omega arith

few_from : (keys : KeyKind) (place : ℕ) (o : Option RecordKind) (body : List ℕ) (after : ℕ → Reading) →
    ((n : ℕ) → records_left (after n) ≤ length body) → records_left (from_kind keys place o body after) ≤ length body + 1
few_from keys place None body after h = omega arith
few_from keys place (Some k) body after h =
    few_after (ltb (length body) (body_width keys k)) _ _ (after (body_width keys k)) (length body) (h (body_width keys k))

-- a log has no more records than bytes
few_left : (keys : KeyKind) (place n : ℕ) (bs : List ℕ) → records_left (reading keys place n bs) ≤ length bs
few_left keys place n [] = omega arith
few_left keys place zero (b ∷ bs) =
    omega (arith, few_from keys place (record_kind b) bs (λ n. reading keys (place + 1) n bs) (λ n. few_left keys (place + 1) n bs))
few_left keys place (suc n) (b ∷ bs) = omega (arith, few_left keys (place + 1) n bs)

few_by : (o : Option KeyKind) (bs : List ℕ) (keys : KeyKind) (r : Reading) → holds keys r ≡ from_key_kind o bs → records_left r ≤ length bs + 1
few_by None bs keys r e = never (cc)
few_by (Some k) bs keys r e = let same : r ≡ reading k 1 0 bs = cc in omega (arith, ap records_left same, few_left k 1 0 bs)

pub few_records : (log : List ℕ) (keys : KeyKind) (r : Reading) → holds keys r ≡ log_reading log → records_left r ≤ length log
few_records [] keys r e = never (cc)
few_records (b ∷ bs) keys r e = omega (arith, few_by (key_kind b) bs keys r e)
