-- The way down, one node after another.
use Rattle.std.proofs.Common.{◌≡◌, ℕ, zero, suc, ◌-◌, Bool, List, [], ◌∷◌, ◌++◌, Some, None, Ok, Err, Option, Result, sym, refl, ap, ◌∙◌, subst, append_assoc, append-nil, sub-one}
use Rattle.store.specs.Nodes.{link_number}
use Rattle.store.specs.declared.node.Node.{Node}
use Rattle.store.specs.declared.fault.StoreFault.{StoreFault}
use Rattle.store.specs.Cells.{Cell, read_answer}
use Rattle.drafts.specs.declared.link.Lean.{Lean}
use Rattle.drafts.specs.Grown.{bind}
use Rattle.drafts.proofs.Turning.{bind_at, bind_stop}
use Rattle.search.specs.declared.search.Sought.{Sought}
use Rattle.search.specs.Searches.{Way, nowhere, side_for, link_at, at_node, at_link, descended, Reaches}

module _ {K : Type 0} (less : K → K → Bool) (x : Sought K) (cs : List (Cell K)) where
  -- one node further, while there is room
  one_level : (k l : ℕ) → (k ≡ 0 → ⊥) → descended less x cs k l ≡ at_link less x cs (descended less x cs (k - 1)) (link_number l)
  unfolding descended
  one_level zero l some = absurd (some refl)
  one_level (suc k) l some = rw (sub-one (suc k))

  stays : (h : List ℕ) → Reaches h h (Ok None) (Ok nowhere)
  stays h = (refl, sym (append-nil h))

  pub reach_none : (h : List ℕ) (k l : ℕ) → None ≡ link_number l → Reaches h h (Ok None) (descended less x cs k l)
  unfolding descended
  reach_none h zero l e = stays h
  reach_none h (suc k) l e = subst (λ o. Reaches h h (Ok None) (at_link less x cs (descended less x cs k) o)) e (stays h)

  pub reach_full : (h : List ℕ) (k l : ℕ) → k ≡ 0 → Reaches h h (Ok None) (descended less x cs k l)
  unfolding descended
  reach_full h k l e = rw e (stays h)

  at_read : (k l n : ℕ) (v : Node K) → (k ≡ 0 → ⊥) → Some n ≡ link_number l → Ok v ≡ read_answer cs n →
      at_node (descended less x cs (k - 1)) n v (side_for less x v) ≡ descended less x cs k l
  at_read k l n v some e r =
      bind_at (read_answer cs n) v _ r ∙ ap (at_link less x cs (descended less x cs (k - 1))) e ∙ sym (one_level k l some)

  pub reach_refused : (h : List ℕ) (k l n : ℕ) (e y : StoreFault) (r : Result (Option ℕ) StoreFault) → (k ≡ 0 → ⊥) → Some n ≡ link_number l → Err e ≡ read_answer cs n →
      r ≡ Err y → y ≡ e → Reaches h h r (descended less x cs k l)
  reach_refused h k l n e y r some a b p q =
      subst (Reaches h h r) (bind_stop (read_answer cs n) e _ b ∙ ap (at_link less x cs (descended less x cs (k - 1))) a ∙ sym (one_level k l some)) (p ∙ ap Err q)

  pub reach_here : (h : List ℕ) (k l n : ℕ) (v : Node K) → (k ≡ 0 → ⊥) → Some n ≡ link_number l → Ok v ≡ read_answer cs n → None ≡ side_for less x v →
      Reaches h h (Ok (Some n)) (descended less x cs k l)
  reach_here h k l n v some a b e =
      subst (Reaches h h (Ok (Some n))) (ap (at_node (descended less x cs (k - 1)) n v) e ∙ at_read k l n v some a b) (refl, sym (append-nil h))

  past : (h h' : List ℕ) (n : ℕ) (r : Result (Option ℕ) StoreFault) (told : Result Way StoreFault) → Reaches (h ++ (n ∷ [])) h' r told →
      Reaches h h' r (bind told (λ w. Ok (record { passed = n ∷ w.passed; end = w.end })))
  past h h' n r (Ok w) p = (p.0, p.1 ∙ append_assoc h (n ∷ []) w.passed)
  past h h' n r (Err e) p = p

  pub reach_on : (h h₁ h' : List ℕ) (k k' l l' n : ℕ) (v : Node K) (s : Lean) (r : Result (Option ℕ) StoreFault) → (k ≡ 0 → ⊥) → k' ≡ k - 1 → Some n ≡ link_number l → Ok v ≡ read_answer cs n →
      Some s ≡ side_for less x v → l' ≡ link_at s v → h₁ ≡ h ++ (n ∷ []) → Reaches h₁ h' r (descended less x cs k' l') → Reaches h h' r (descended less x cs k l)
  reach_on h h₁ h' k k' l l' n v s r some u a b e f g p =
      subst (Reaches h h' r) (ap (at_node (descended less x cs (k - 1)) n v) e ∙ at_read k l n v some a b)
      (past h h' n r _ (subst (λ z. Reaches z h' r (descended less x cs (k - 1) (link_at s v))) g
      (subst (λ z. Reaches h₁ h' r (descended less x cs z (link_at s v))) u (subst (λ z. Reaches h₁ h' r (descended less x cs k' z)) f p))))
