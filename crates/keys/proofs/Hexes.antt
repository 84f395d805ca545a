-- Text keys as hexadecimal digits, byte by byte.
use Rattle.std.proofs.Common.{◌≡◌, ℕ, ◌+◌, ◌/◌, ◌%◌, ◌<◌, List, [], ◌∷◌, ◌++◌, length, get_or, take, sym, refl, ap, ◌∙◌, append_assoc, arith}
use lib.Utf8.{encode}
use Rattle.std.proofs.lemmas.List.{take_more}
use Rattle.std.proofs.lemmas.Str.Ascii.{encode_ascii}
use Rattle.std.proofs.lemmas.Bool.Decides.{nat_tests}
use Rattle.keys.specs.Texts.{hex, hex_digit}

hex_append : (xs ys : List ℕ) → hex (xs ++ ys) ≡ hex xs ++ hex ys
hex_append [] ys = refl
hex_append (x ∷ xs) ys = ap (λ l. hex_digit (x / 16) ∷ hex_digit (x % 16) ∷ l) (hex_append xs ys)

-- a digit is one byte of text
pub digit_encoded : (c d : ℕ) → d < 16 → c ≡ hex_digit d → encode c ≡ hex_digit d ∷ []
digit_encoded c d h e = ap encode e ∙ encode_ascii (hex_digit d) (grind (arith, nat_tests))

-- the digits of one more byte
pub hex_more : (bs : List ℕ) (i : ℕ) (p q : List ℕ) → i < length bs →
    p ≡ hex_digit (get_or bs i 0 / 16) ∷ [] → q ≡ hex_digit (get_or bs i 0 % 16) ∷ [] →
    (hex (take i bs) ++ p) ++ q ≡ hex (take (i + 1) bs)
hex_more bs i p q h ep eq =
    ap (λ l. (hex (take i bs) ++ l) ++ q) ep
    ∙ ap (λ l. (hex (take i bs) ++ (hex_digit (get_or bs i 0 / 16) ∷ [])) ++ l) eq
    ∙ append_assoc (hex (take i bs)) _ _
    ∙ sym (ap hex (take_more bs i 0 h) ∙ hex_append (take i bs) (get_or bs i 0 ∷ []))
