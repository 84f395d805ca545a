-- What is written can be read.
use Rattle.std.proofs.Common.{◌≡◌, ℕ, zero, suc, ◌+◌, ◌*◌, ◌^◌, ◌<◌, ◌≤◌, List, [], ◌∷◌, ◌++◌, length, get_or, take, drop, Some, None, sym, refl, ap, ◌∙◌, subst, append_assoc, mod-eq_of_lt, arith, length-append}
use Rattle.std.proofs.lemmas.List.{take_at, drop_at, drop-drop, get_or_append_left}
use Rattle.journal.specs.declared.format.KeyKind.{KeyKind}
use Rattle.journal.specs.declared.format.KeyKind.TheVariants.{Whole, Decimal, Text}
use Rattle.journal.specs.declared.format.RecordKind.{RecordKind}
use Rattle.journal.specs.declared.format.RecordKind.TheVariants.{Put, Drop, Split, Advance, Open, Step, Close, Counts}
use Rattle.requests.specs.declared.call.Call.{Call}
use Rattle.requests.specs.declared.call.Call.TheVariants as entry
use Rattle.keys.specs.Bytes.{bytes, number}
use Rattle.journal.specs.KeyKinds.{key_byte, key_width, key_kind}
use Rattle.journal.specs.RecordKinds.{kind_byte, record_kind, body_width}
use Rattle.journal.specs.Readings.{Reading, reads, record_of, from_kind, reading, from_key_kind}
use Rattle.journal.specs.Entries.{Entry, entry_kind, entry_body, entries_bytes, encode}
use Rattle.journal.specs.Entries.{Fits, AllFit, filled, fault_of, entries_of}
use Rattle.journal.specs.Laws.{WrittenIsRead}
use Rattle.keys.proofs.Numbers.{shifted, number_bytes, length_bytes}
use Rattle.journal.proofs.Steps.{skipped, enough}

-- a byte stands for the kind whose byte it is
pub key_back : (k : KeyKind) → key_kind (key_byte k) ≡ Some k
key_back Whole = refl
key_back Decimal = refl
key_back Text = refl

pub kind_back : (k : RecordKind) → record_kind (kind_byte k) ≡ Some k
kind_back Put = refl
kind_back Drop = refl
kind_back Split = refl
kind_back Advance = refl
kind_back Open = refl
kind_back Step = refl
kind_back Close = refl
kind_back Counts = refl

-- a number is not changed by what follows its bytes
pub number_front : (k i : ℕ) (xs ys : List ℕ) → i + k ≤ length xs → number k i (xs ++ ys) ≡ number k i xs
number_front zero i xs ys h = refl
number_front (suc k) i xs ys h =
    ap (λ b. b * 256 ^ k + number k (suc i) (xs ++ ys)) (get_or_append_left xs ys 0 i (omega arith))
    ∙ ap (λ n. get_or xs i 0 * 256 ^ k + n) (number_front k (suc i) xs ys (omega arith))

pub number_past : (k : ℕ) (p xs : List ℕ) → number k (length p) (p ++ xs) ≡ number k 0 xs
number_past k [] xs = refl
number_past k (b ∷ p) xs = shifted k (length p) b (p ++ xs) ∙ number_past k p xs

-- the number that stands after p
word_is : (n i : ℕ) (p q : List ℕ) → length p ≡ i → n < 2 ^ 64 → number 8 i (p ++ (bytes 8 n ++ q)) ≡ n
word_is n i p q l h =
    ap (λ j. number 8 j (p ++ (bytes 8 n ++ q))) (sym l) ∙ number_past 8 p (bytes 8 n ++ q) ∙ number_front 8 0 (bytes 8 n) q (omega (arith, length_bytes 8 n))
    ∙ number_bytes 8 n ∙ mod-eq_of_lt h

-- the body of an entry has the width of its kind
three_parts : (a b c : List ℕ) → length (a ++ (b ++ c)) ≡ length a + (length b + length c)
three_parts a b c = simp length-append

body_length : (keys : KeyKind) (e : Entry) → Fits (key_width keys) e → length (entry_body e) ≡ body_width keys (entry_kind e)
body_length keys (entry.Put low high rows) f = three_parts low high (bytes 8 rows) ∙ omega arith
body_length keys (entry.Drop key) f = f
body_length keys (entry.Split key lower upper) f = three_parts key (bytes 8 lower) (bytes 8 upper) ∙ omega arith
body_length keys entry.Advance f = refl
body_length keys (entry.Open session key) f = omega arith
body_length keys (entry.Step session) f = refl
body_length keys (entry.Close session) f = refl
body_length keys entry.Counts f = refl

-- a key that begins at a place, and what follows it
key_is : (w place : ℕ) (log key more : List ℕ) → length key ≡ w → drop place log ≡ key ++ more → take w (drop place log) ≡ key
key_is w place log key more l h = ap (take w) h ∙ take_at key more w l

past_key : (w place : ℕ) (log key more : List ℕ) → length key ≡ w → drop place log ≡ key ++ more → drop (place + w) log ≡ more
past_key w place log key more l h = sym (drop-drop w place log) ∙ ap (drop w) h ∙ drop_at key more w l

-- two keys one after the other; a number after two parts, and between them
two_keys : (w place : ℕ) (log a b c more : List ℕ) → length a ≡ w → length b ≡ w → drop place log ≡ (a ++ (b ++ c)) ++ more →
    (take w (drop place log) ≡ a) × (take w (drop (place + w) log) ≡ b)
two_keys w place log a b c more la lb h =
    let first : drop place log ≡ a ++ ((b ++ c) ++ more) = h ∙ append_assoc a (b ++ c) more in
    let second : drop (place + w) log ≡ b ++ (c ++ more) = past_key w place log a ((b ++ c) ++ more) la first ∙ append_assoc b c more in
    (key_is w place log a ((b ++ c) ++ more) la first, key_is w (place + w) log b (c ++ more) lb second)

word_last : (n i : ℕ) (a b more : List ℕ) → length a + length b ≡ i → n < 2 ^ 64 → number 8 i ((a ++ (b ++ bytes 8 n)) ++ more) ≡ n
word_last n i a b more l h =
    let regroup : (c : List ℕ) → (a ++ (b ++ c)) ++ more ≡ (a ++ b) ++ (c ++ more) = λ c. simp append_assoc in
    ap (number 8 i) (regroup (bytes 8 n)) ∙ word_is n i (a ++ b) more (length-append a b ∙ l) h

word_between : (n i : ℕ) (a c more : List ℕ) → length a ≡ i → n < 2 ^ 64 → number 8 i ((a ++ (bytes 8 n ++ c)) ++ more) ≡ n
word_between n i a c more l h =
    let regroup : (b : List ℕ) → (a ++ (b ++ c)) ++ more ≡ a ++ (b ++ (c ++ more)) = λ b. simp append_assoc in
    ap (number 8 i) (regroup (bytes 8 n)) ∙ word_is n i a (c ++ more) l h

same_puts : (a a' b b' : List ℕ) (n n' : ℕ) → a ≡ a' → b ≡ b' → n ≡ n' → entry.Put a b n ≡ entry.Put a' b' n'
same_puts a a' b b' n n' e f g = cc

same_splits : (a a' : List ℕ) (m m' n n' : ℕ) → a ≡ a' → m ≡ m' → n ≡ n' → entry.Split a m n ≡ entry.Split a' m' n'
same_splits a a' m m' n n' e f g = cc

-- the record of an entry whose body begins at a place of the log tells the entry again
filled_back : (keys : KeyKind) (e : Entry) (place : ℕ) (log more : List ℕ) → Fits (key_width keys) e → drop place log ≡ entry_body e ++ more →
    filled (key_width keys) log (record_of keys (entry_kind e) place (entry_body e ++ more)) ≡ e
filled_back keys (entry.Put low high rows) place log more f h =
    let both = two_keys (key_width keys) place log low high (bytes 8 rows) more f.0 f.1 h in
    same_puts _ low _ high _ rows both.0 both.1 (word_last rows (2 * key_width keys) low high more (omega arith) f.2)
filled_back keys (entry.Drop key) place log more f h = ap entry.Drop (key_is (key_width keys) place log key more f h)
filled_back keys (entry.Split key lower upper) place log more f h =
    let w : ℕ = key_width keys in
    same_splits _ key _ lower _ upper
    (key_is w place log key ((bytes 8 lower ++ bytes 8 upper) ++ more) f.0 (h ∙ append_assoc key (bytes 8 lower ++ bytes 8 upper) more))
    (word_between lower w key (bytes 8 upper) more f.0 f.1) (word_last upper (w + 8) key (bytes 8 lower) more (omega arith) f.2)
filled_back keys entry.Advance place log more f h = refl
filled_back keys (entry.Open session key) place log more f h =
    ap (entry.Open session) (key_is (key_width keys) (place + 1) log key more f (past_key 1 place log (session ∷ []) (key ++ more) refl h))
filled_back keys (entry.Step session) place log more f h = refl
filled_back keys (entry.Close session) place log more f h = refl
filled_back keys entry.Counts place log more f h = refl

-- the bytes of entries, read from any place of a log on
pub record Tells (keys : KeyKind) (log : List ℕ) (es : List Entry) (r : Reading) : Type 0 where
  pub no_fault : fault_of r ≡ None
  pub same_entries : entries_of keys log r ≡ es

one_more : (keys : KeyKind) (log : List ℕ) (e : Entry) (es : List Entry) (x : Call ℕ) (r : Reading) → filled (key_width keys) log x ≡ e → Tells keys log es r →
    Tells keys log (e ∷ es) (reads x r)
one_more keys log e es x r h t = record { no_fault = t.no_fault; same_entries = ap (λ y. y ∷ entries_of keys log r) h ∙ ap (λ ys. e ∷ ys) t.same_entries }

-- at an entry: its record, and what follows it is read from the place after it
one_entry : (keys : KeyKind) (place : ℕ) (e : Entry) (more : List ℕ) → Fits (key_width keys) e →
    reading keys place 0 (kind_byte (entry_kind e) ∷ (entry_body e ++ more))
    ≡ reads (record_of keys (entry_kind e) (place + 1) (entry_body e ++ more)) (reading keys (place + 1 + body_width keys (entry_kind e)) 0 more)
one_entry keys place e more f =
    let k : RecordKind = entry_kind e in
    let body : List ℕ = entry_body e ++ more in
    let l = body_length keys e f in
    let after : ℕ → Reading = λ n. reading keys (place + 1) n body in
    let n : ℕ = body_width keys k in
    ap (λ o. from_kind keys place o body after) (kind_back k)
    ∙ enough keys place k body after (omega (arith, l, length-append (entry_body e) more))
    ∙ ap (reads (record_of keys k (place + 1) body)) (skipped keys (place + 1) n body ∙ ap (reading keys (place + 1 + n) 0) (drop_at (entry_body e) more n l))

told : (keys : KeyKind) (log : List ℕ) (place : ℕ) (es : List Entry) → AllFit (key_width keys) es → drop place log ≡ entries_bytes es →
    Tells keys log es (reading keys place 0 (entries_bytes es))
told keys log place [] f h = record { no_fault = refl; same_entries = refl }
told keys log place (e ∷ es) f h =
    let n : ℕ = body_width keys (entry_kind e) in
    let at_body : drop (place + 1) log ≡ entry_body e ++ entries_bytes es = sym (drop-drop 1 place log) ∙ ap (drop 1) h in
    let beyond : drop (place + 1 + n) log ≡ entries_bytes es = past_key n (place + 1) log (entry_body e) (entries_bytes es) (body_length keys e f.0) at_body in
    subst (Tells keys log (e ∷ es)) (sym (one_entry keys place e (entries_bytes es) f.0))
    (one_more keys log e es _ _ (filled_back keys e (place + 1) log (entries_bytes es) f.0 at_body) (told keys log (place + 1 + n) es f.1 beyond))

pub written_is_read : WrittenIsRead
written_is_read keys es f =
    let t = told keys (encode keys es) 1 es f refl in (
      reading keys 1 0 (entries_bytes es),
      record {
        same_log = ap (λ o. from_key_kind o (entries_bytes es)) (key_back keys);
        no_fault = t.no_fault;
        same_entries = t.same_entries;
      },
    )
