-- After the making the whole pool is free.
use Rattle.std.proofs.Common.{◌≡◌, ℕ, suc, ◌+◌, ◌-◌, ◌<◌, ◌≤◌, true, false, cond, eqb, List, [], ◌∷◌, length, get_or, Some, refl, ap, ◌∙◌, subst, inl, inr, suc-le-suc, zero-le, arith}
use Rattle.std.proofs.lemmas.List.{get_or-drop, length-drop}
use Rattle.std.proofs.lemmas.Bool.{lt-leb}
use Rattle.store.specs.declared.node.Node.{Node}
use Rattle.store.specs.Faults.{outside}
use Rattle.store.specs.Cells.{Cell, shut, cell_at, mark_of}
use Rattle.sessions.specs.Writings.{nothing_written, CellAfter, Rewritten}
use Rattle.sessions.specs.Making.{can_make, made_mark, every_node, making, pool, marked}
use Rattle.sessions.specs.Laws.{Made, MakingLaw}
use Rattle.sessions.proofs.Makes.{counts_are}
use Rattle.sessions.proofs.Sweeping.{inside}

module _ {K : Type 0} where
  -- a written cell has the node's mark, closed or not
  mark_after : (v : Node K) (c d : Cell K) → CellAfter (Some v) c d → mark_of d ≡ v.mark
  mark_after v c d (inl e) = ap mark_of e
  mark_after v c d (inr e) = ap mark_of e

  -- cells that all have mark 0
  abbrev AllFree : List (Cell K) → Type 0
  AllFree xs = (i : ℕ) → i < length xs → mark_of (get_or xs i (shut 0)) ≡ 0

  tail_free : (x : Cell K) (xs : List (Cell K)) → AllFree (x ∷ xs) → AllFree xs
  tail_free x xs h i lt = h (suc i) (suc-le-suc lt)

  head_free : (x : Cell K) (xs : List (Cell K)) → AllFree (x ∷ xs) → mark_of x ≡ 0
  head_free x xs h = h 0 (suc-le-suc zero-le)

  free_counted : (xs : List (Cell K)) → AllFree xs → marked 0 xs ≡ length xs
  free_counted [] h = refl
  free_counted (x ∷ xs) h =
      let rest = free_counted xs (tail_free x xs h) in
      ap (λ k. cond (eqb k 0) 1 0 + marked 0 xs) (head_free x xs h) ∙ omega (arith, rest)

  others_none : (m : ℕ) (xs : List (Cell K)) → eqb 0 m ≡ false → AllFree xs → marked m xs ≡ 0
  others_none m [] e h = refl
  others_none m (x ∷ xs) e h =
      let rest = others_none m xs e (tail_free x xs h) in
      ap (λ k. cond (eqb k m) 1 0 + marked m xs) (head_free x xs h) ∙ ap (λ b. cond b 1 0 + marked m xs) e ∙ omega (arith, rest)

  module _ (filler : K) (cs ds : List (Cell K)) (fits : can_make (length cs) ≡ true) (h : Rewritten (making filler (length cs)) cs ds) where
    every : Rewritten (every_node filler) cs ds
    every = subst (λ b. Rewritten (cond b (every_node filler) nothing_written) cs ds) fits h

    marks : (n : ℕ) → outside n (length cs) ≡ false → mark_of (cell_at ds n) ≡ made_mark n
    marks n e = mark_after _ (cell_at cs n) (cell_at ds n) (every.each n e)

    pool_free : AllFree (pool ds)
    pool_free i lt =
        let long = length-drop 32 ds in
        let within : 32 + i + 1 ≤ length cs = omega (arith, long, every.count, lt) in
        let some : 0 < 32 + i + 1 = omega arith in
        let back : 32 + i ≡ 32 + i + 1 - 1 = omega arith in
        let above : 32 < 32 + i + 1 = omega arith in
        ap mark_of (get_or-drop 32 ds i (shut 0) ∙ ap (λ j. get_or ds j (shut 0)) back)
        ∙ marks (32 + i + 1) (inside (32 + i + 1) (length cs) some within)
        ∙ ap (λ b. cond b 3 0) (lt-leb (32 + i + 1) 32 above)

    pub made_law : Made cs ds
    made_law =
        record {
          marks = marks;
          counts = counts_are _ _ _ _ (others_none 1 (pool ds) refl pool_free) (others_none 2 (pool ds) refl pool_free)
              (free_counted (pool ds) pool_free ∙ length-drop 32 ds ∙ ap (λ n. n - 32) every.count);
        }

pub making_law : (K : Type 0) → MakingLaw K
making_law K filler cs ds fits h = made_law filler cs ds fits h
