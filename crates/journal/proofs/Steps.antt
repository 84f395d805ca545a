-- What the bytes from a place on say, by the byte that stands there.
use Rattle.std.proofs.Common.{◌≡◌, ℕ, zero, suc, ◌+◌, ◌-◌, ◌<◌, ◌≤◌, cond, List, [], ◌∷◌, length, get_or, take, drop, Some, Option, sym, ap, ◌∙◌, add-zero, add-one, arith, length-drop, drop-cons, le-ltb}
use Rattle.std.proofs.lemmas.List.{drop_all, drop-drop, take_all}
use Rattle.journal.specs.declared.format.KeyKind.{KeyKind}
use Rattle.journal.specs.declared.format.RecordKind.{RecordKind}
use Rattle.journal.specs.declared.format.LogFault.TheVariants.{Cut}
use Rattle.journal.specs.Readings.{Reading, fails, reads, record_of, from_kind, reading}
use Rattle.journal.specs.RecordKinds.{record_kind, body_width}

-- the part of a log from a place on, as the code takes it
pub from_place : (n : ℕ) (log : List ℕ) → take (length log - n) (drop n log) ≡ drop n log
from_place n log =
    let l : length (drop n log) ≤ length log - n = simp length-drop (omega arith) in
    take_all (length log - n) (drop n log) l

-- passing over n bytes of a body is going on n places further
pub skipped : (keys : KeyKind) (place n : ℕ) (bs : List ℕ) → reading keys place n bs ≡ reading keys (place + n) 0 (drop n bs)
skipped keys place n [] = sym (ap (reading keys (place + n) 0) (drop_all n [] (omega arith)))
skipped keys place zero (b ∷ bs) = ap (λ p. reading keys p 0 (b ∷ bs)) (sym (add-zero place))
skipped keys place (suc n) (b ∷ bs) = skipped keys (place + 1) n bs ∙ ap (λ p. reading keys p 0 (drop n bs)) (omega arith)

-- a kind byte, by the kind that it stands for
at_kind : (keys : KeyKind) (place : ℕ) (log : List ℕ) (k : Option RecordKind) → place < length log → record_kind (get_or log place 0) ≡ k →
    reading keys place 0 (drop place log) ≡ from_kind keys place k (drop (place + 1) log) (λ n. reading keys (place + 1) n (drop (place + 1) log))
at_kind keys place log k h e =
    let bytes : drop place log ≡ get_or log place 0 ∷ drop (place + 1) log =
    drop-cons log place 0 h ∙ ap (λ n. get_or log place 0 ∷ drop n log) (sym (add-one place)) in
    ap (reading keys place 0) bytes
    ∙ ap (λ o. from_kind keys place o (drop (place + 1) log) (λ n. reading keys (place + 1) n (drop (place + 1) log))) e

-- a known kind, where the bytes that follow are enough for its body
pub enough : (keys : KeyKind) (place : ℕ) (k : RecordKind) (body : List ℕ) (after : ℕ → Reading) → body_width keys k ≤ length body →
    from_kind keys place (Some k) body after ≡ reads (record_of keys k (place + 1) body) (after (body_width keys k))
enough keys place k body after h =
    ap (λ t. cond t (fails (Cut place)) (reads (record_of keys k (place + 1) body) (after (body_width keys k)))) (le-ltb _ _ h)

pub at_record : (keys : KeyKind) (place : ℕ) (log : List ℕ) (k : RecordKind) → place < length log → record_kind (get_or log place 0) ≡ Some k →
    body_width keys k ≤ length (drop (place + 1) log) →
    reading keys place 0 (drop place log)
    ≡ reads (record_of keys k (place + 1) (drop (place + 1) log)) (reading keys (place + 1 + body_width keys k) 0 (drop (place + 1 + body_width keys k) log))
at_record keys place log k h e long =
    at_kind keys place log (Some k) h e ∙ enough keys place k _ (λ n. reading keys (place + 1) n (drop (place + 1) log)) long
    ∙ ap (reads (record_of keys k (place + 1) (drop (place + 1) log)))
    (skipped keys (place + 1) (body_width keys k) (drop (place + 1) log)
    ∙ ap (reading keys (place + 1 + body_width keys k) 0) (drop-drop (body_width keys k) (place + 1) log))
