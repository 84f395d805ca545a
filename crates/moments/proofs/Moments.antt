-- Nodes that leave, from one moment to the next.
use Rattle.std.proofs.Common.{◌≡◌, ℕ, suc, ◌-◌, ◌<◌, ◌≤◌, List, ◌∷◌, length, drop, sym, ap, ◌∙◌, subst, arith}
use Rattle.runs.specs.States.{State, Cells, InTree}
use Rattle.runs.specs.Runs.{Turn, state, state_at, LeftAfter}

module _ {K F : Type 0} (z : State (Cells K)) (ts : List (Turn (Cells K) K F)) (t : Turn (Cells K) K F) where
  -- the states up to the last call
  earlier : (i : ℕ) → i ≤ length ts → state_at z (t ∷ ts) i ≡ state_at z ts i
  earlier i h = let e : suc (length ts) - i ≡ suc (length ts - i) = omega arith in ap (λ (k : ℕ). state z (drop k (t ∷ ts))) e

  before : state_at z (t ∷ ts) (length ts) ≡ state z ts
  before = let e : suc (length ts) - length ts ≡ 1 = omega arith in ap (λ (k : ℕ). state z (drop k (t ∷ ts))) e

  after : state_at z (t ∷ ts) (suc (length ts)) ≡ t.after
  after = let e : suc (length ts) - suc (length ts) ≡ 0 = omega arith in ap (λ (k : ℕ). state z (drop k (t ∷ ts))) e

  -- a node left before the last call, or in it
  pub left_was : (i q : ℕ) → i < length ts → LeftAfter z (t ∷ ts) i q → LeftAfter z ts i q
  left_was i q h l = record {
    within = h;
    was_in = subst (λ (x : State (Cells K)). InTree x q) (earlier i (omega arith)) l.was_in;
    is_out = λ k. l.is_out (subst (λ (x : State (Cells K)). InTree x q) (sym (earlier (suc i) h)) k);
  }

  pub left_more : (i q : ℕ) → LeftAfter z ts i q → LeftAfter z (t ∷ ts) i q
  left_more i q l =
      let h = l.within in
      record {
        within = omega arith;
        was_in = subst (λ (x : State (Cells K)). InTree x q) (sym (earlier i (omega arith))) l.was_in;
        is_out = λ k. l.is_out (subst (λ (x : State (Cells K)). InTree x q) (earlier (suc i) h) k);
      }

  -- in it: it was in the tree, and is not
  pub record Leaves (i q : ℕ) : Type 0 where
    pub last : i ≡ length ts
    pub was_in : InTree (state z ts) q
    pub is_out : InTree t.after q → ⊥

  pub left_now : (i q : ℕ) → (i < length ts → ⊥) → LeftAfter z (t ∷ ts) i q → Leaves i q
  left_now i q h l =
      let w = l.within in
      let e : i ≡ length ts = omega arith in
      record {
        last = e;
        was_in = subst (λ (x : State (Cells K)). InTree x q) (ap (state_at z (t ∷ ts)) e ∙ before) l.was_in;
        is_out = λ k. l.is_out (subst (λ (x : State (Cells K)). InTree x q) (sym (ap (λ (j : ℕ). state_at z (t ∷ ts) (suc j)) e ∙ after)) k);
      }

  pub leaves_now : (q : ℕ) → InTree (state z ts) q → (InTree t.after q → ⊥) → LeftAfter z (t ∷ ts) (length ts) q
  leaves_now q h n = record {
    within = omega arith;
    was_in = subst (λ (x : State (Cells K)). InTree x q) (sym before) h;
    is_out = λ k. n (subst (λ (x : State (Cells K)). InTree x q) after k);
  }
