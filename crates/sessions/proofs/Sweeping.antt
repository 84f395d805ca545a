-- A loop over the nodes in the order of their numbers, that writes some of them.
use Rattle.std.proofs.Common.{◌≡◌, ℕ, ◌+◌, ◌-◌, ◌<◌, ◌≤◌, Bool, true, false, cond, eqb, leb, ◌≢◌, List, ◌∷◌, length, drop, Some, None, Ok, Err, sym, refl, ap, ◌∙◌, subst, arith}
use Rattle.std.proofs.lemmas.List.{drop_more}
use Rattle.std.proofs.lemmas.Bool.{eqb-true, eqb-false, leb-true, leb-false, le-leb, lt-leb}
use Rattle.store.specs.declared.node.Node.{Node}
use Rattle.store.specs.Faults.{outside}
use Rattle.store.specs.declared.fault.StoreFault.{StoreFault}
use Rattle.store.specs.Cells.{Cell, shut, cell_at, mark_of, mark_answer, write_answer, Written}
use Rattle.store.proofs.Insides.{numbered, mark_inside, write_inside}
use Rattle.sessions.specs.Writings.{Writing, CellAfter, Rewritten}
use Rattle.sessions.proofs.Rewriting.{rewritten_then}

-- the numbers of the nodes
pub inside : (n N : ℕ) → 0 < n → n ≤ N → outside n N ≡ false
inside n N some h = grind arith

-- the cells from node n on: its own, and those after it
pub next_drop : {K : Type 0} (cs : List (Cell K)) (n : ℕ) → 0 < n → n ≤ length cs → drop (n - 1) cs ≡ cell_at cs n ∷ drop n cs
next_drop cs n some h =
    let lt : n - 1 < length cs = omega arith in
    let e : n - 1 + 1 ≡ n = omega arith in
    drop_more cs (n - 1) (shut 0) lt ∙ ap (λ j. cell_at cs n ∷ drop j cs) e

-- what holds of the nodes up to n holds as the turn of node n + 1 begins
pub next_turn : (P : ℕ → Type 0) (n : ℕ) → P n → P (n + 1 - 1)
next_turn P n h = let e : n ≡ n + 1 - 1 = omega arith in subst P e h

module _ {K : Type 0} where
  -- no question of a mark and no write is refused at a node of the store
  pub mark_taken : (cs : List (Cell K)) (n : ℕ) (x : StoreFault) → 0 < n → n ≤ length cs → Err x ≡ mark_answer cs n → ⊥
  mark_taken cs n x some h e = let t = mark_inside cs n (inside n (length cs) some h) in let z : ◌≡◌ {A = ℕ} 0 1 = cc in omega arith

  pub write_taken : (cs : List (Cell K)) (n : ℕ) (x : StoreFault) → 0 < n → n ≤ length cs → Err x ≡ write_answer cs n → ⊥
  write_taken cs n x some h e = let t = write_inside cs n (inside n (length cs) some h) in let z : ◌≡◌ {A = ℕ} 0 1 = cc in omega arith

  -- the mark that is answered
  pub mark_told : (cs : List (Cell K)) (n m : ℕ) → 0 < n → n ≤ length cs → Ok m ≡ mark_answer cs n → m ≡ mark_of (cell_at cs n)
  mark_told cs n m some h e = let t = mark_inside cs n (inside n (length cs) some h) in cc

  -- the part of a writing that concerns the first i nodes
  abbrev pub upto : ℕ → Writing K → Writing K
  upto i w n = cond (leb n i) (w n) None

  pub same_writing : (u w : Writing K) (cs ds : List (Cell K)) → ((n : ℕ) → outside n (length cs) ≡ false → u n ≡ w n) → Rewritten w cs ds → Rewritten u cs ds
  same_writing u w cs ds same h = record {
    count = h.count;
    each = λ n e. subst (λ o. CellAfter o (cell_at cs n) (cell_at ds n)) (sym (same n e)) (h.each n e);
  }

  upto_in : (w : Writing K) (i n : ℕ) → n ≤ i → upto i w n ≡ w n
  upto_in w i n h = rw (le-leb n i h)

  upto_out : (w : Writing K) (i n : ℕ) → i < n → upto i w n ≡ None
  upto_out w i n h = rw (lt-leb n i h)

  upto_other : (w : Writing K) (m n : ℕ) → 0 < m → n ≢ m → (b : Bool) → leb n (m - 1) ≡ b → upto m w n ≡ upto (m - 1) w n
  upto_other w m n some ne true t = let a = leb-true n (m - 1) t in upto_in w m n (omega arith) ∙ sym (upto_in w (m - 1) n a)
  upto_other w m n some ne false t = let a = leb-false n (m - 1) t in upto_out w m n (omega (arith, ne)) ∙ sym (upto_out w (m - 1) n a)

  -- before the loop, where the writing leaves the nodes that the loop passes over
  pub sweep_starts : (w : Writing K) (i : ℕ) (cs : List (Cell K)) → ((n : ℕ) → n ≢ 0 → n ≤ i → w n ≡ None) → Rewritten (upto i w) cs cs
  sweep_starts w i cs none = record { count = refl; each = λ n e. by_side n e (leb n i) refl }
    where
      by_side : (n : ℕ) → outside n (length cs) ≡ false → (b : Bool) → leb n i ≡ b → CellAfter (upto i w n) (cell_at cs n) (cell_at cs n)
      by_side n e true t =
          let h : n ≤ i = leb-true n i t in
          let p = numbered n (length cs) e in
          subst (λ o. CellAfter o (cell_at cs n) (cell_at cs n)) (sym (upto_in w i n h ∙ none n p.0 h)) refl
      by_side n e false t = subst (λ o. CellAfter o (cell_at cs n) (cell_at cs n)) (sym (upto_out w i n (leb-false n i t))) refl

  -- after the loop
  pub sweep_ends : (w : Writing K) (i : ℕ) (cs ds : List (Cell K)) → length cs ≤ i → Rewritten (upto i w) cs ds → Rewritten w cs ds
  sweep_ends w i cs ds long h =
      same_writing w (upto i w) cs ds (λ n e. let p = numbered n (length cs) e in sym (upto_in w i n (omega (arith, p.1)))) h

  module _ (w : Writing K) (m : ℕ) (some : 0 < m) (cs ds : List (Cell K)) (was : Rewritten (upto (m - 1) w) cs ds) where
    -- a turn that writes
    pub sweep_writes : (es : List (Cell K)) (v : Node K) → m ≤ length cs → w m ≡ Some v → Written ds m v es → Rewritten (upto m w) cs es
    sweep_writes es v h is wrote =
        let k : m ≤ length ds = omega (arith, was.count) in
        let le : m ≤ m = omega arith in
        rewritten_then (upto m w) (upto (m - 1) w) cs ds es m v was (inside m (length ds) some k) wrote
        (upto_in w m m le ∙ is) (λ n ne. upto_other w m n some ne (leb n (m - 1)) refl)

    -- a turn that does not
    pub sweep_passes : w m ≡ None → Rewritten (upto m w) cs ds
    sweep_passes is = same_writing (upto m w) (upto (m - 1) w) cs ds (λ n e. by_node n (eqb n m) refl) was
      where
        by_node : (n : ℕ) → (b : Bool) → eqb n m ≡ b → upto m w n ≡ upto (m - 1) w n
        by_node n true t =
            let same : n ≡ m = eqb-true n m t in
            let le : m ≤ m = omega arith in
            let lt : m - 1 < m = omega arith in
            subst (λ k. upto m w k ≡ upto (m - 1) w k) (sym same) (upto_in w m m le ∙ is ∙ sym (upto_out w (m - 1) m lt))
        by_node n false t = upto_other w m n some (eqb-false n m t) (leb n (m - 1)) refl

    -- the turn meets the cell that was there before the loop
    pub sweep_meets : m ≤ length cs → cell_at ds m ≡ cell_at cs m
    sweep_meets h =
        let lt : m - 1 < m = omega arith in
        subst (λ o. CellAfter o (cell_at cs m) (cell_at ds m)) (upto_out w (m - 1) m lt) (was.each m (inside m (length cs) some h))
