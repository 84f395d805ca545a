-- What is read was written.
use Rattle.std.proofs.Common.{◌≡◌, ℕ, zero, suc, ◌+◌, ◌*◌, ◌^◌, ◌<◌, ◌≤◌, Bool, true, false, cond, eqb, ltb, List, [], ◌∷◌, ◌++◌, length, get_or, take, drop, Some, None, Option, find, sym, refl, ap, ◌∙◌, subst, append_assoc, add-zero, one-add, arith, lit<, length-append, length-drop, take-append-drop, ltb-false, ltb-true, eqb-true}
use Rattle.std.proofs.lemmas.List.{drop-drop, length-take-le, drop_all}
use Rattle.std.proofs.Math.Seq.{take-add}
use Rattle.journal.specs.declared.format.KeyKind.{KeyKind}
use Rattle.journal.specs.declared.format.RecordKind.{RecordKind}
use Rattle.journal.specs.declared.format.RecordKind.TheVariants.{Put, Drop, Split, Advance, Open, Step, Close, Counts}
use Rattle.journal.specs.declared.format.LogFault.TheVariants.{Cut}
use Rattle.keys.specs.Bytes.{AllBytes, bytes, number}
use Rattle.journal.specs.KeyKinds.{key_byte, key_width, key_kinds, key_kind}
use Rattle.journal.specs.RecordKinds.{kind_byte, record_kinds, record_kind, body_width}
use Rattle.journal.specs.Readings.{Reading, fails, reads, record_of, from_kind, reading, from_key_kind}
use Rattle.journal.specs.Entries.{Entry, entry_kind, entry_body, entries_bytes, Fits, AllFit, filled, fault_of, entries_of}
use Rattle.journal.specs.Laws.{GoesOn, Accounted, ReadWasWritten}
use Rattle.keys.proofs.Numbers.{number_lt, bytes_number, number_taken}
use Rattle.journal.proofs.Entries.{key_back, kind_back}

-- the kind that a byte stands for has that byte; a byte that stands for no kind is the byte of none
module _ {K : Type 0} (byte_of : K → ℕ) where
  by_test : (ks : List K) (b : ℕ) (j k : K) → (find (λ x. eqb b (byte_of x)) ks ≡ Some k → b ≡ byte_of k) →
      (t : Bool) → eqb b (byte_of j) ≡ t → cond t (Some j) (find (λ x. eqb b (byte_of x)) ks) ≡ Some k → b ≡ byte_of k
  by_test ks b j k others true q h = let same : j ≡ k = cc in eqb-true b (byte_of j) q ∙ ap byte_of same
  by_test ks b j k others false q h = others h

  has_byte : (ks : List K) (b : ℕ) (k : K) → find (λ x. eqb b (byte_of x)) ks ≡ Some k → b ≡ byte_of k
  has_byte [] b k e = let z : ◌≡◌ {A = ℕ} 0 1 = cc in let w : ⊥ = omega arith in elim w [ ]
  has_byte (j ∷ ks) b k e = by_test ks b j k (has_byte ks b k) (eqb b (byte_of j)) refl e

not_known : {K : Type 0} (kind-of : ℕ → Option K) (b c : ℕ) (k : K) → kind-of c ≡ Some k → kind-of b ≡ None → b ≡ c → ⊥
not_known kind-of b c k e n q = let z : ◌≡◌ {A = ℕ} 0 1 = cc in omega arith

-- parts of a list of bytes
small_drop : (n : ℕ) (xs : List ℕ) → AllBytes xs → AllBytes (drop n xs)
small_drop zero xs s i = s i
small_drop (suc n) [] s i = lit< tt
small_drop (suc n) (x ∷ xs) s i = small_drop n xs (λ j. s (suc j)) i

small_take : (n : ℕ) (xs : List ℕ) → AllBytes xs → AllBytes (take n xs)
small_take zero xs s i = lit< tt
small_take (suc n) [] s i = lit< tt
small_take (suc n) (x ∷ xs) s zero = s 0
small_take (suc n) (x ∷ xs) s (suc i) = small_take n xs (λ j. s (suc j)) i

part_length : (i n : ℕ) (xs : List ℕ) → i + n ≤ length xs → length (take n (drop i xs)) ≡ n
part_length i n xs h = let l : n ≤ length (drop i xs) = simp length-drop (omega arith) in length-take-le n (drop i xs) l

three_parts_of : (m n p : ℕ) (xs : List ℕ) → take (m + n + p) xs ≡ take m xs ++ (take n (drop m xs) ++ take p (drop (m + n) xs))
three_parts_of m n p xs =
    take-add (m + n) p xs ∙ ap (λ l. l ++ take p (drop (m + n) xs)) (take-add m n xs)
    ∙ append_assoc (take m xs) (take n (drop m xs)) (take p (drop (m + n) xs))

-- a number inside a list of bytes: it fits its width, and writes these bytes again
number_fits : (k i : ℕ) (xs : List ℕ) → i + k ≤ length xs → AllBytes xs → number k i xs < 256 ^ k
number_fits k i xs h s =
    subst (λ n. n < 256 ^ k) (number_taken k i xs h)
    (number_lt k (take k (drop i xs)) (part_length i k xs h) (small_take k (drop i xs) (small_drop i xs s)))

number_again : (k i : ℕ) (xs : List ℕ) → i + k ≤ length xs → AllBytes xs → bytes k (number k i xs) ≡ take k (drop i xs)
number_again k i xs h s =
    ap (bytes k) (sym (number_taken k i xs h)) ∙ bytes_number k (take k (drop i xs)) (part_length i k xs h) (small_take k (drop i xs) (small_drop i xs s))

-- the entry that a record tells has the record's kind, fits, and its body is the record's
kind_again : (keys : KeyKind) (k : RecordKind) (place : ℕ) (log bs : List ℕ) → entry_kind (filled (key_width keys) log (record_of keys k place bs)) ≡ k
kind_again keys Put place log bs = refl
kind_again keys Drop place log bs = refl
kind_again keys Split place log bs = refl
kind_again keys Advance place log bs = refl
kind_again keys Open place log bs = refl
kind_again keys Step place log bs = refl
kind_again keys Close place log bs = refl
kind_again keys Counts place log bs = refl

-- what stands n bytes after a place
further : (n place : ℕ) (log bs : List ℕ) → drop place log ≡ bs → drop (place + n) log ≡ drop n bs
further n place log bs h = sym (drop-drop n place log) ∙ ap (drop n) h

key_length : (i w place : ℕ) (log bs : List ℕ) → drop place log ≡ drop i bs → i + w ≤ length bs → length (take w (drop place log)) ≡ w
key_length i w place log bs h l = ap (λ xs. length (take w xs)) h ∙ part_length i w bs l

fits_again : (keys : KeyKind) (k : RecordKind) (place : ℕ) (log bs : List ℕ) → drop place log ≡ bs → AllBytes bs → body_width keys k ≤ length bs →
    Fits (key_width keys) (filled (key_width keys) log (record_of keys k place bs))
fits_again keys Put place log bs h s l =
    let w : ℕ = key_width keys in
    let high = key_length w w (place + w) log bs (further w place log bs h) (omega arith) in
    (key_length 0 w place log bs h (omega arith), high, number_fits 8 (2 * w) bs (omega arith) s)
fits_again keys Drop place log bs h s l = key_length 0 (key_width keys) place log bs h (omega arith)
fits_again keys Split place log bs h s l =
    let w : ℕ = key_width keys in
    (key_length 0 w place log bs h (omega arith), number_fits 8 w bs (omega arith) s, number_fits 8 (w + 8) bs (omega arith) s)
fits_again keys Advance place log bs h s l = tt
fits_again keys Open place log bs h s l = key_length 1 (key_width keys) (place + 1) log bs (further 1 place log bs h) l
fits_again keys Step place log bs h s l = tt
fits_again keys Close place log bs h s l = tt
fits_again keys Counts place log bs h s l = tt

-- the first byte, and the bytes after it
first_byte : (w : ℕ) (bs : List ℕ) → 1 ≤ length bs → get_or bs 0 0 ∷ take w (drop 1 bs) ≡ take (1 + w) bs
first_byte w [] l = let z : ⊥ = omega arith in elim z [ ]
first_byte w (b ∷ bs) l = ap (λ n. take n (b ∷ bs)) (sym (one-add w))

joined : (a a' b b' c c' : List ℕ) → a ≡ a' → b ≡ b' → c ≡ c' → a ++ (b ++ c) ≡ a' ++ (b' ++ c')
joined a a' b b' c c' e f g = cc

body_again : (keys : KeyKind) (k : RecordKind) (place : ℕ) (log bs : List ℕ) → drop place log ≡ bs → AllBytes bs → body_width keys k ≤ length bs →
    entry_body (filled (key_width keys) log (record_of keys k place bs)) ≡ take (body_width keys k) bs
body_again keys Put place log bs h s l =
    let w : ℕ = key_width keys in
    let twice : w + w ≡ 2 * w = omega arith in
    joined _ (take w bs) _ (take w (drop w bs)) _ (take 8 (drop (2 * w) bs))
    (ap (take w) h) (ap (take w) (further w place log bs h)) (number_again 8 (2 * w) bs (omega arith) s)
    ∙ ap (λ n. take w bs ++ (take w (drop w bs) ++ take 8 (drop n bs))) (sym twice) ∙ sym (three_parts_of w w 8 bs) ∙ ap (λ n. take (n + 8) bs) twice
body_again keys Drop place log bs h s l = ap (take (key_width keys)) h
body_again keys Split place log bs h s l =
    let w : ℕ = key_width keys in
    let words : w + 8 + 8 ≡ w + 16 = omega arith in
    joined _ (take w bs) _ (take 8 (drop w bs)) _ (take 8 (drop (w + 8) bs))
    (ap (take w) h) (number_again 8 w bs (omega arith) s) (number_again 8 (w + 8) bs (omega arith) s)
    ∙ sym (three_parts_of w 8 8 bs) ∙ ap (λ n. take n bs) words
body_again keys Advance place log bs h s l = refl
body_again keys Open place log bs h s l =
    let w : ℕ = key_width keys in
    ap (λ xs. get_or bs 0 0 ∷ take w xs) (further 1 place log bs h) ∙ first_byte w bs (omega arith)
body_again keys Step place log bs h s l = first_byte 0 bs l
body_again keys Close place log bs h s l = first_byte 0 bs l
body_again keys Counts place log bs h s l = refl

-- what is read from a place on was written there
pub record Spelled (keys : KeyKind) (log : List ℕ) (place : ℕ) (bs : List ℕ) (r : Reading) (rest : List ℕ) : Type 0 where
  pub fits : AllFit (key_width keys) (entries_of keys log r)
  pub same : bs ≡ entries_bytes (entries_of keys log r) ++ rest
  pub on : GoesOn keys (place + length (entries_bytes (entries_of keys log r))) rest (fault_of r)

-- a record, and then what was written after its body
record_first : (keys : KeyKind) (log : List ℕ) (place : ℕ) (b : ℕ) (bs : List ℕ) (k : RecordKind) (r : Reading) (rest : List ℕ) →
    AllBytes bs → drop (place + 1) log ≡ bs → b ≡ kind_byte k → body_width keys k ≤ length bs →
    Spelled keys log (place + 1 + body_width keys k) (drop (body_width keys k) bs) r rest →
    Spelled keys log place (b ∷ bs) (reads (record_of keys k (place + 1) bs) r) rest
record_first keys log place b bs k r rest s h e l after =
    let x : Entry = filled (key_width keys) log (record_of keys k (place + 1) bs) in
    let es : List Entry = entries_of keys log r in
    let body = body_again keys k (place + 1) log bs h s l in
    let first : b ≡ kind_byte (entry_kind x) = e ∙ ap kind_byte (sym (kind_again keys k (place + 1) log bs)) in
    let others : bs ≡ (entry_body x ++ entries_bytes es) ++ rest =
    sym (take-append-drop (body_width keys k) bs) ∙ ap (λ p. p ++ drop (body_width keys k) bs) (sym body) ∙ ap (λ p. entry_body x ++ p) after.same
    ∙ sym (append_assoc (entry_body x) (entries_bytes es) rest) in
    let long : length (entry_body x) ≡ body_width keys k = ap length body ∙ length-take-le (body_width keys k) bs l in
    let to : place + 1 + body_width keys k + length (entries_bytes es) ≡ place + suc (length (entry_body x ++ entries_bytes es)) =
    omega (arith, length-append (entry_body x) (entries_bytes es)) in
    record {
      fits = (fits_again keys k (place + 1) log bs h s l, after.fits);
      same = ap (λ c. c ∷ bs) first ∙ ap (λ p. kind_byte (entry_kind x) ∷ p) others;
      on = subst (λ n. GoesOn keys n rest (fault_of r)) to after.on;
    }

-- at a kind byte, where what follows a record's body is known to have been written
module _ (keys : KeyKind) (log : List ℕ) (place b : ℕ) (bs : List ℕ) (s : AllBytes bs) (h : drop (place + 1) log ≡ bs)
    (after : (n : ℕ) → n ≤ length bs → (rest : List ℕ) × Spelled keys log (place + 1 + n) (drop n bs) (reading keys (place + 1) n bs) rest) where
  by_length : (k : RecordKind) → b ≡ kind_byte k → (t : Bool) → ltb (length bs) (body_width keys k) ≡ t →
      (rest : List ℕ) × Spelled keys log place (b ∷ bs)
      (cond t (fails (Cut place)) (reads (record_of keys k (place + 1) bs) (reading keys (place + 1) (body_width keys k) bs))) rest
  by_length k e true q =
      (b ∷ bs, record { fits = tt; same = refl; on = (sym (add-zero place), (k, (e, ltb-true (length bs) (body_width keys k) q))) })
  by_length k e false q =
      let l = ltb-false (length bs) (body_width keys k) q in
      let more = after (body_width keys k) l in
      (more.0, record_first keys log place b bs k (reading keys (place + 1) (body_width keys k) bs) more.0 s h e l more.1)

  by_kind : (o : Option RecordKind) → record_kind b ≡ o →
      (rest : List ℕ) × Spelled keys log place (b ∷ bs) (from_kind keys place o bs (λ n. reading keys (place + 1) n bs)) rest
  by_kind None e =
      (b ∷ bs, record { fits = tt; same = refl; on = (sym (add-zero place), λ k q. not_known record_kind b (kind_byte k) k (kind_back k) e q) })
  by_kind (Some k) e = by_length k (has_byte kind_byte record_kinds b k e) (ltb (length bs) (body_width keys k)) refl

spelled : (keys : KeyKind) (log : List ℕ) (place n : ℕ) (bs : List ℕ) → AllBytes bs → drop place log ≡ bs → n ≤ length bs →
    (rest : List ℕ) × Spelled keys log (place + n) (drop n bs) (reading keys place n bs) rest
spelled keys log place n [] s h l = ([], record { fits = tt; same = drop_all n [] (omega arith); on = refl })
spelled keys log place zero (b ∷ bs) s h l =
    let tail : drop (place + 1) log ≡ bs = further 1 place log (b ∷ bs) h in
    let small : AllBytes bs = λ i. s (suc i) in
    let here = by_kind keys log place b bs small tail (λ n m. spelled keys log (place + 1) n bs small tail m) (record_kind b) refl in
    (here.0, subst (λ p. Spelled keys log p (b ∷ bs) (reading keys place 0 (b ∷ bs)) here.0) (sym (add-zero place)) here.1)
spelled keys log place (suc n) (b ∷ bs) s h l =
    let there = spelled keys log (place + 1) n bs (λ i. s (suc i)) (further 1 place log (b ∷ bs) h) (omega arith) in
    let to : place + 1 + n ≡ place + suc n = omega arith in
    (there.0, subst (λ p. Spelled keys log p (drop n bs) (reading keys (place + 1) n bs) there.0) to there.1)

-- a whole log
by_header : (b : ℕ) (bs : List ℕ) → AllBytes (b ∷ bs) → (o : Option KeyKind) → key_kind b ≡ o → Accounted (b ∷ bs) (from_key_kind o bs)
by_header b bs s None e = (refl, λ k q. not_known key_kind b (key_byte k) k (key_back k) e q)
by_header b bs s (Some keys) e =
    let found = spelled keys (b ∷ bs) 1 0 bs (λ i. s (suc i)) refl (omega arith) in
    let t = found.1 in
    let es : List Entry = entries_of keys (b ∷ bs) (reading keys 1 0 bs) in (
      found.0,
      record {
        all_fit = t.fits;
        same_bytes = ap (λ c. c ∷ bs) (has_byte key_byte key_kinds b keys e) ∙ ap (λ p. key_byte keys ∷ p) t.same;
        goes_on = subst (λ n. GoesOn keys n found.0 (fault_of (reading keys 1 0 bs))) (one-add (length (entries_bytes es))) t.on;
      },
    )

pub read_was_written : ReadWasWritten
read_was_written [] s = refl
read_was_written (b ∷ bs) s = by_header b bs s (key_kind b) refl
