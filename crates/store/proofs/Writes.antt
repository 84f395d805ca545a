-- What code over any store learns from a write.
use Rattle.std.proofs.Common.{◌≡◌, ℕ, ◌-◌, ◌<◌, Bool, true, false, cond, ◌≢◌, List, length, get_or, set, sym, refl, ap, ◌∙◌, subst, inl, inr, arith, length-set}
use lib.ListN.{length-map}
use Rattle.std.proofs.lemmas.List.{get_or-set_same, get_or-set_other, get_or-map}
use Rattle.store.specs.declared.node.Node.{Node}
use Rattle.store.specs.Faults.{outside}
use Rattle.store.specs.Cells.{Cell, shut, readable, cell_at, mark_of, replaced, all_readable, Written}
use Rattle.store.specs.Fits.{ShutFree}
use Rattle.store.proofs.Insides.{below, replaced_inside, replaced_outside}

module _ {K : Type 0} where
  by_length : (b : Bool) (cs : List (Cell K)) (i : ℕ) (c : Cell K) → length (cond b cs (set cs i c)) ≡ length cs
  by_length true cs i c = refl
  by_length false cs i c = length-set cs i c

  replaced_length : (cs : List (Cell K)) (n : ℕ) (c : Cell K) → length (replaced cs n c) ≡ length cs
  replaced_length cs n c = by_length (outside n (length cs)) cs (n - 1) c

  -- N never changes
  pub written_length : (cs : List (Cell K)) (n : ℕ) (v : Node K) (ds : List (Cell K)) → Written cs n v ds → length ds ≡ length cs
  unfolding Written
  written_length cs n v ds (inl e) = ap length e ∙ replaced_length cs n (readable v)
  written_length cs n v ds (inr e) = ap length e ∙ replaced_length cs n (shut v.mark)

  replaced_at : (cs : List (Cell K)) (n : ℕ) (c : Cell K) → outside n (length cs) ≡ false → cell_at (replaced cs n c) n ≡ c
  replaced_at cs n c e = ap (λ l. cell_at l n) (replaced_inside cs n c e) ∙ get_or-set_same cs (n - 1) c (shut 0) (below n (length cs) e)

  -- the node has the mark that was written
  pub written_mark : (cs : List (Cell K)) (n : ℕ) (v : Node K) (ds : List (Cell K)) → outside n (length cs) ≡ false → Written cs n v ds → mark_of (cell_at ds n) ≡ v.mark
  unfolding Written
  written_mark cs n v ds e (inl w) = ap (λ l. mark_of (cell_at l n)) w ∙ ap mark_of (replaced_at cs n (readable v) e)
  written_mark cs n v ds e (inr w) = ap (λ l. mark_of (cell_at l n)) w ∙ ap mark_of (replaced_at cs n (shut v.mark) e)

  -- where closed nodes have mark 0, a node written with another mark can be read
  pub written_readable : (cs : List (Cell K)) (n : ℕ) (v : Node K) (ds : List (Cell K)) → outside n (length cs) ≡ false → ShutFree ds → (v.mark ≡ 0 → ⊥) →
      Written cs n v ds → ds ≡ set cs (n - 1) (readable v)
  unfolding Written
  written_readable cs n v ds e free used (inl w) = w ∙ replaced_inside cs n (readable v) e
  written_readable cs n v ds e free used (inr w) =
      let z : ⊥ = used (free n v.mark (ap (λ l. cell_at l n) w ∙ replaced_at cs n (shut v.mark) e)) in elim z [ ]

  by_other : (b : Bool) (cs : List (Cell K)) (i j : ℕ) (c : Cell K) → j ≢ i → get_or (cond b cs (set cs i c)) j (shut 0) ≡ get_or cs j (shut 0)
  by_other true cs i j c ne = refl
  by_other false cs i j c ne = get_or-set_other cs i j c (shut 0) ne

  -- every other cell is as it was
  pub written_other : (cs : List (Cell K)) (n i : ℕ) (v : Node K) (ds : List (Cell K)) → i ≢ n - 1 → Written cs n v ds → get_or ds i (shut 0) ≡ get_or cs i (shut 0)
  unfolding Written
  written_other cs n i v ds ne (inl w) = ap (λ l. get_or l i (shut 0)) w ∙ by_other (outside n (length cs)) cs (n - 1) i (readable v) ne
  written_other cs n i v ds ne (inr w) = ap (λ l. get_or l i (shut 0)) w ∙ by_other (outside n (length cs)) cs (n - 1) i (shut v.mark) ne

  -- a refused write changes nothing
  pub written_outside : (cs : List (Cell K)) (n : ℕ) (v : Node K) (ds : List (Cell K)) → outside n (length cs) ≡ true → Written cs n v ds → ds ≡ cs
  unfolding Written
  written_outside cs n v ds e (inl w) = w ∙ replaced_outside cs n (readable v) e
  written_outside cs n v ds e (inr w) = w ∙ replaced_outside cs n (shut v.mark) e

  by_open : (b : Bool) (vs us : List (Node K)) (n : ℕ) (v : Node K) → outside n (length (all_readable vs)) ≡ b →
      all_readable us ≡ replaced (all_readable vs) n (shut v.mark) → all_readable us ≡ replaced (all_readable vs) n (readable v)
  by_open true vs us n v e h = h ∙ replaced_outside (all_readable vs) n (shut v.mark) e ∙ sym (replaced_outside (all_readable vs) n (readable v) e)
  by_open false vs us n v e h =
      let same : length (all_readable us) ≡ length (all_readable vs) = ap length h ∙ replaced_length (all_readable vs) n (shut v.mark) in
      let lt : n - 1 < length us = subst (λ x. n - 1 < x) (sym same ∙ length-map us readable) (below n (length (all_readable vs)) e) in
      let one : readable (get_or us (n - 1) v) ≡ shut v.mark =
      sym (get_or-map readable us (n - 1) v (shut 0) lt) ∙ ap (λ l. cell_at l n) h ∙ replaced_at (all_readable vs) n (shut v.mark) e in
      let z : ◌≡◌ {A = ℕ} 0 1 = cc in let w : ⊥ = omega arith in elim w [ ]

  -- a store that closes no node has the node readable after a write
  pub written_open : (vs us : List (Node K)) (n : ℕ) (v : Node K) → Written (all_readable vs) n v (all_readable us) →
      all_readable us ≡ replaced (all_readable vs) n (readable v)
  unfolding Written
  written_open vs us n v (inl e) = e
  written_open vs us n v (inr e) = by_open (outside n (length (all_readable vs))) vs us n v refl e

  -- the same write keeps two such stores alike
  pub alike : (vs us vs' us' : List (Node K)) (n : ℕ) (v : Node K) →
      Written (all_readable vs) n v (all_readable vs') → Written (all_readable us) n v (all_readable us') →
      all_readable vs ≡ all_readable us → all_readable vs' ≡ all_readable us'
  alike vs us vs' us' n v a b e = written_open vs vs' n v a ∙ ap (λ cs. replaced cs n (readable v)) e ∙ sym (written_open us us' n v b)
