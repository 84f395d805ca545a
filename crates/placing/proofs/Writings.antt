-- What stands in the cells after some writes.
use Rattle.std.proofs.Common.{◌≡◌, ℕ, zero, suc, ◌+◌, ◌-◌, ◌≤◌, Bool, true, false, cond, eqb, ltb, ◌⊎◌, List, [], ◌∷◌, ◌++◌, length, refl, ap, ◌∙◌, subst, inl, inr, arith}
use Rattle.std.proofs.lemmas.List.{get_or-set_same}
use Rattle.std.proofs.lemmas.Bool.{eq-eqb, ne_eqb, le-ltb, or_from}
use Rattle.store.specs.declared.node.Node.{Node}
use Rattle.store.specs.Faults.{outside}
use Rattle.store.specs.Cells.{Cell, shut, readable, cell_at, mark_of, replaced, Written}
use Rattle.store.specs.Fits.{ShutFree}
use Rattle.store.proofs.Insides.{numbered, below, replaced_inside}
use Rattle.store.proofs.Writes.{written_length, written_other, written_outside}
use Rattle.drafts.specs.declared.link.Numbered.{Numbered}
use Rattle.commits.specs.Commits.{Writes}
use Rattle.commits.proofs.Committing.{writes_length}
use Rattle.runs.specs.States.{Cells, InPool}
use Rattle.lifting.specs.Lifts.{leaves as written, AllRead}
use Rattle.placing.specs.Placings.{LastWrite, ReadBack}

-- one, if the numbers are the same
pub one_same : (m n : ℕ) → m ≡ n → ◌≡◌ {A = ℕ} (cond (eqb m n) 1 0) 1
one_same m n e = rw (eq-eqb m n e)

pub none_other : (m n : ℕ) → (m ≡ n → ⊥) → ◌≡◌ {A = ℕ} (cond (eqb m n) 1 0) 0
none_other m n e = rw (ne_eqb m n e)

module _ {K : Type 0} where
  -- what is in a cell after v was written there
  abbrev pub Holds : Cells K → ℕ → Node K → Type 0
  Holds ds n v = (cell_at ds n ≡ readable v) ⊎ (cell_at ds n ≡ shut v.mark)

  in_place : (cs : Cells K) (n : ℕ) (c : Cell K) → outside n (length cs) ≡ false → cell_at (replaced cs n c) n ≡ c
  in_place cs n c e = ap (λ l. cell_at l n) (replaced_inside cs n c e) ∙ get_or-set_same cs (n - 1) c (shut 0) (below n (length cs) e)

  here : (cs ds : Cells K) (n : ℕ) (v : Node K) → outside n (length cs) ≡ false → Written cs n v ds → Holds ds n v
  unfolding Written
  here cs ds n v e (inl w) = inl (ap (λ l. cell_at l n) w ∙ in_place cs n (readable v) e)
  here cs ds n v e (inr w) = inr (ap (λ l. cell_at l n) w ∙ in_place cs n (shut v.mark) e)

  -- where closed cells have mark 0, what was written with another mark can be read
  pub holds_readable : (ds : Cells K) (n : ℕ) (v : Node K) → ShutFree ds → (v.mark ≡ 0 → ⊥) → Holds ds n v → cell_at ds n ≡ readable v
  holds_readable ds n v free used (inl e) = e
  holds_readable ds n v free used (inr e) = absurd (used (free n v.mark e))

  -- it has the mark that was written, whether it is closed or not
  pub holds_mark : (ds : Cells K) (n : ℕ) (v : Node K) → Holds ds n v → mark_of (cell_at ds n) ≡ v.mark
  holds_mark ds n v (inl e) = ap mark_of e
  holds_mark ds n v (inr e) = ap mark_of e

  holds_as : (ds es : Cells K) (n : ℕ) (v : Node K) → cell_at es n ≡ cell_at ds n → Holds ds n v → Holds es n v
  holds_as ds es n v e (inl h) = inl (e ∙ h)
  holds_as ds es n v e (inr h) = inr (e ∙ h)

  -- a write to no number touches no cell, since 0 numbers none
  other : (cs ds : Cells K) (n m : ℕ) (v : Node K) → 1 ≤ n → (n ≡ m → ⊥) → Written cs m v ds → cell_at ds n ≡ cell_at cs n
  other cs ds n m v one far w = by_inside (outside m (length cs)) refl
    where
      by_inside : (b : Bool) → outside m (length cs) ≡ b → cell_at ds n ≡ cell_at cs n
      by_inside true e = ap (λ l. cell_at l n) (written_outside cs m v ds e w)
      by_inside false e =
          let p = (numbered m (length cs) e).0 in
          written_other cs m (n - 1) v ds (λ d. far (omega (arith, p))) w

  pub others : (cs ds : Cells K) (ws : List (Numbered K)) → Writes cs ws ds → (n : ℕ) → 1 ≤ n → written n ws ≡ 0 → cell_at ds n ≡ cell_at cs n
  unfolding Writes
  others cs ds [] p n one z = ap (λ l. cell_at l n) p
  others cs ds (w ∷ ws) p n one z =
      others p.0 ds ws p.2 n one (omega arith) ∙
      other cs p.0 n w.number w.node one (λ e. omega (arith, one_same n w.number e)) p.1

  pub last : (cs ds : Cells K) (ws : List (Numbered K)) → Writes cs ws ds → (w : Numbered K) → LastWrite w ws → outside w.number (length cs) ≡ false → Holds ds w.number w.node
  unfolding Writes
  last cs ds [] p w h e = absurd h
  last cs ds (v ∷ vs) p w (inl (i, z)) e =
      let one = (numbered w.number (length cs) e).0 in
      holds_as p.0 ds w.number w.node (others p.0 ds vs p.2 w.number (omega (arith, one)) z)
      (here cs p.0 w.number w.node e (subst (λ (u : Numbered K). Written cs u.number u.node p.0) i p.1))
  last cs ds (v ∷ vs) p w (inr h) e =
      last p.0 ds vs p.2 w h (ap (outside w.number) (written_length cs v.number v.node p.0 p.1) ∙ e)

  pub read_back : (cs ds : Cells K) (ws : List (Numbered K)) → Writes cs ws ds → ReadBack cs ws ds
  read_back cs ds ws p = record {
    as_many = writes_length cs ds ws p;
    others = others cs ds ws p;
    last = last cs ds ws p;
    last_readable = λ w h e free used. holds_readable ds w.number w.node free used (last cs ds ws p w h e);
  }

  -- ALL OF SOME WRITES, none to the same node as another, and all to nodes of the pool

  pub record ApartWrites (cs : Cells K) (ws : List (Numbered K)) : Type 0 where
    pub once : (n : ℕ) → written n ws ≤ 1
    pub in_pool : (n : ℕ) → (written n ws ≡ 0) ⊎ InPool cs n

  pub pool_inside : (cs : Cells K) (n : ℕ) → InPool cs n → outside n (length cs) ≡ false
  pool_inside cs n p = let a = p.past_seats in let b = p.inside in or_from (eqb n 0) (ltb (length cs) n) (ne_eqb n 0 (λ e. omega arith)) (le-ltb (length cs) n b)

  -- a cell that none wrote, whatever its number
  pub unwritten : (cs ds : Cells K) (ws : List (Numbered K)) → Writes cs ws ds → ApartWrites cs ws → (n : ℕ) → written n ws ≡ 0 → cell_at ds n ≡ cell_at cs n
  unwritten cs ds ws p a zero z = others cs ds ws p 1 (omega arith) (not_one (a.in_pool 1))
    where
      not_one : (written 1 ws ≡ 0) ⊎ InPool cs 1 → written 1 ws ≡ 0
      not_one (inl e) = e
      not_one (inr i) = let h = i.past_seats in absurd (omega arith)
  unwritten cs ds ws p a (suc n) z = others cs ds ws p (suc n) (omega arith) z

  abbrev pub AllHeld : Cells K → List (Numbered K) → Type 0
  AllHeld ds [] = Unit {0}
  AllHeld ds (w ∷ ws) = Holds ds w.number w.node × AllHeld ds ws

  held : (cs ds : Cells K) (ws : List (Numbered K)) → Writes cs ws ds → ((n : ℕ) → written n ws ≤ 1) → ((n : ℕ) → (written n ws ≡ 0) ⊎ (outside n (length cs) ≡ false)) → AllHeld ds ws
  unfolding Writes
  held cs ds [] p once in_store = tt
  held cs ds (w ∷ ws) p once in_store = (
    last cs ds (w ∷ ws) p w (inl (refl, omega (arith, once w.number, one_same w.number w.number refl))) (at_head (in_store w.number)),
    held p.0 ds ws p.2 (λ n. omega (arith, once n)) (λ n. at_tail n (in_store n)),
  )
    where
      at_head : (written w.number (w ∷ ws) ≡ 0) ⊎ (outside w.number (length cs) ≡ false) → outside w.number (length cs) ≡ false
      at_head (inl z) = absurd (omega (arith, one_same w.number w.number refl))
      at_head (inr e) = e

      at_tail : (n : ℕ) → (written n (w ∷ ws) ≡ 0) ⊎ (outside n (length cs) ≡ false) → (written n ws ≡ 0) ⊎ (outside n (length p.0) ≡ false)
      at_tail n (inl z) = inl (omega arith)
      at_tail n (inr e) = inr (ap (outside n) (written_length cs w.number w.node p.0 p.1) ∙ e)

  pub all_held : (cs ds : Cells K) (ws : List (Numbered K)) → Writes cs ws ds → ApartWrites cs ws → AllHeld ds ws
  all_held cs ds ws p a = held cs ds ws p a.once (λ n. in_store n (a.in_pool n))
    where
      in_store : (n : ℕ) → (written n ws ≡ 0) ⊎ InPool cs n → (written n ws ≡ 0) ⊎ (outside n (length cs) ≡ false)
      in_store n (inl z) = inl z
      in_store n (inr i) = inr (pool_inside cs n i)

  -- PARTS OF A LIST OF WRITES

  pub written_append : (n : ℕ) (us vs : List (Numbered K)) → written n (us ++ vs) ≡ written n us + written n vs
  written_append n [] vs = omega arith
  written_append n (u ∷ us) vs = omega (arith, written_append n us vs)

  pub held_front : (ds : Cells K) (us vs : List (Numbered K)) → AllHeld ds (us ++ vs) → AllHeld ds us
  held_front ds [] vs h = tt
  held_front ds (u ∷ us) vs h = (h.0, held_front ds us vs h.1)

  pub held_back : (ds : Cells K) (us vs : List (Numbered K)) → AllHeld ds (us ++ vs) → AllHeld ds vs
  held_back ds [] vs h = h
  held_back ds (u ∷ us) vs h = held_back ds us vs h.1

  pub read_front : (ds : Cells K) (us vs : List (Numbered K)) → AllRead ds (us ++ vs) → AllRead ds us
  read_front ds [] vs h = tt
  read_front ds (u ∷ us) vs h = (h.0, read_front ds us vs h.1)

  pub read_rest : (ds : Cells K) (us vs : List (Numbered K)) → AllRead ds (us ++ vs) → AllRead ds vs
  read_rest ds [] vs h = h
  read_rest ds (u ∷ us) vs h = read_rest ds us vs h.1

  -- none is written as free
  abbrev pub AllUsed : List (Numbered K) → Type 0
  AllUsed [] = Unit {0}
  AllUsed (w ∷ ws) = (w.node.mark ≡ 0 → ⊥) × AllUsed ws

  pub used_append : (us vs : List (Numbered K)) → AllUsed us → AllUsed vs → AllUsed (us ++ vs)
  used_append [] vs p q = q
  used_append (u ∷ us) vs p q = (p.0, used_append us vs p.1 q)

  pub all_read : (ds : Cells K) (ws : List (Numbered K)) → ShutFree ds → AllUsed ws → AllHeld ds ws → AllRead ds ws
  all_read ds [] free used h = tt
  all_read ds (w ∷ ws) free used h = (holds_readable ds w.number w.node free used.0 h.0, all_read ds ws free used.1 h.1)
