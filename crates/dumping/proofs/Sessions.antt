-- The sessions of a node, one by one.
use Rattle.std.proofs.Common.{◌≡◌, ℕ, zero, suc, ◌+◌, ◌/◌, ◌%◌, ◌^◌, cond, eqb, List, [], ◌++◌, codes, decimal, sym, ap, ◌∙◌, append_assoc, append-nil, add-zero, zero-add, add-one, arith}
use Rattle.std.proofs.lemmas.Bool.{eq-eqb, ne_eqb}
use Rattle.dumping.specs.Nodes.{sessions}

abbrev part : ℕ → ℕ → List ℕ
part waits s = cond (eqb (waits / 2 ^ s % 2) 1) (codes " " ++ decimal s) []

more_from : (waits s k : ℕ) → sessions waits s (suc k) ≡ sessions waits s k ++ part waits (s + k)
more_from waits s zero = append-nil (part waits s) ∙ ap (part waits) (sym (add-zero s))
more_from waits s (suc k) =
    ap (λ l. part waits s ++ l) (more_from waits (s + 1) k ∙ ap (λ n. sessions waits (s + 1) k ++ part waits n) (omega arith))
    ∙ sym (append_assoc (part waits s) (sessions waits (s + 1) k) (part waits (s + suc k)))

one_more : (waits k : ℕ) → sessions waits 0 (k + 1) ≡ sessions waits 0 k ++ part waits k
one_more waits k = ap (sessions waits 0) (add-one k) ∙ more_from waits 0 k ∙ ap (λ n. sessions waits 0 k ++ part waits n) (zero-add k)

pub set_more : (waits k : ℕ) → waits / 2 ^ k % 2 ≡ 1 → sessions waits 0 k ++ (codes " " ++ decimal k) ≡ sessions waits 0 (k + 1)
set_more waits k e = sym (one_more waits k ∙ ap (λ b. sessions waits 0 k ++ cond b (codes " " ++ decimal k) []) (eq-eqb (waits / 2 ^ k % 2) 1 e))

pub clear_more : (waits k : ℕ) → (waits / 2 ^ k % 2 ≡ 1 → ⊥) → sessions waits 0 k ≡ sessions waits 0 (k + 1)
clear_more waits k e =
    sym (one_more waits k ∙ ap (λ b. sessions waits 0 k ++ cond b (codes " " ++ decimal k) []) (ne_eqb (waits / 2 ^ k % 2) 1 e) ∙ append-nil (sessions waits 0 k))
