-- The empty text is below every other.
use Rattle.std.proofs.Common.{◌≡◌, ℕ, zero, suc, ◌+◌, ◌<◌, Bool, true, false, cond, eqb, List, [], ◌∷◌, length, take, replicate, Some, None, Ok, Option, refl, ap, ◌∙◌, subst, arith}
use Rattle.std.proofs.lemmas.Bool.Decides.{nat_tests}
use Rattle.std.specs.declared.cmp.Ordering.TheVariants.{Less}
use Rattle.keys.specs.declared.text.Text.{Text}
use Rattle.keys.specs.declared.text.TextFault.{TextFault}
use Rattle.keys.specs.declared.text.TextFault.TheVariants.{Stray}
use Rattle.keys.specs.Texts.{text_fault, stray_fault, order_bytes, text_filler}
use Rattle.examples.specs.Worked.{compare_texts}

-- a list without a byte other than zero is all zeros
zeros_by : (place b : ℕ) (bs : List ℕ) (p : Bool) → eqb b 0 ≡ p → (stray_fault (place + 1) bs ≡ None → bs ≡ replicate (length bs) 0) →
    ◌≡◌ {A = Option TextFault} (cond p (stray_fault (place + 1) bs) (Some (Stray place b))) None → b ∷ bs ≡ 0 ∷ replicate (length bs) 0
zeros_by place b bs true h rest e =
    let z : b ≡ 0 = grind (arith, nat_tests) in ap (λ n. n ∷ bs) z ∙ ap (λ l. 0 ∷ l) (rest e)
zeros_by place b bs false h rest e = let z : ◌≡◌ {A = ℕ} 0 1 = cc in let w : ⊥ = omega arith in elim w [ ]

zeros : (place : ℕ) (bs : List ℕ) → stray_fault place bs ≡ None → bs ≡ replicate (length bs) 0
zeros place [] e = refl
zeros place (b ∷ bs) e = zeros_by place b bs (eqb b 0) refl (zeros (place + 1) bs) e

-- a text of some length is above the empty one
above_empty : (n : ℕ) (bs : List ℕ) → 0 < n → 0 < length bs → order_bytes [] (take n bs) ≡ Less
unfolding order_bytes
above_empty zero bs h k = let z : ⊥ = omega arith in elim z [ ]
above_empty (suc n) [] h k = let z : ⊥ = omega arith in elim z [ ]
above_empty (suc n) (b ∷ bs) h k = grind (arith, nat_tests)

-- one of length 0 is the empty one
no_length : (t : Text) → t.len ≡ 0 → length t.bytes ≡ 16 → text_fault t ≡ None → t ≡ text_filler
no_length t z l w =
    let none : text_fault (record { len = 0; bytes = t.bytes }) ≡ None =
    subst (λ n. let u : Text = record { len = n; bytes = t.bytes } in text_fault u ≡ None) z w in
    ap (λ n. let u : Text = record { len = n; bytes = t.bytes } in u) z
    ∙ ap (λ bs. let u : Text = record { len = 0; bytes = bs } in u) (zeros 0 t.bytes none ∙ ap (λ n. replicate n 0) l)

pub empty_first : (t : Text) → length t.bytes ≡ 16 → text_fault t ≡ None → (t ≡ text_filler → ⊥) → compare_texts text_filler t ≡ Ok Less
empty_first t l w other =
    let some : t.len ≡ 0 → ⊥ = λ z. other (no_length t z l w) in
    rw w (ap Ok (above_empty t.len t.bytes (omega arith) (omega arith)))
