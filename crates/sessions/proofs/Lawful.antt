-- The laws of the sessions.
use Rattle.std.proofs.Common.{◌≡◌, ℕ, ◌<◌, Bool, true, false, cond, ◌&&◌, eqb, ltb, ◌≢◌, ◌⊎◌, List, length, Some, None, Ok, Option, sym, refl, ap, ◌∙◌, subst, inl, inr, arith}
use Rattle.std.proofs.lemmas.Bool.{lt-ltb, ltb-true}
use Rattle.std.specs.declared.cmp.Ordering.{Ordering}
use Rattle.std.specs.declared.cmp.Ordering.TheVariants.{Less, Equal, Greater}
use Rattle.store.specs.declared.node.Node.{Node}
use Rattle.store.specs.Faults.{outside}
use Rattle.store.specs.Cells.{Cell, shut, readable, cell_at}
use Rattle.sessions.specs.Ways.{way_by, way_of}
use Rattle.sessions.specs.Writings.{CellAfter, Rewritten}
use Rattle.sessions.specs.Waiting.{bit, without_bit, waiting_for, waits_for, released, release}
use Rattle.sessions.specs.Laws.{WaySays, Without, ReleaseLaw}
use Rattle.sessions.proofs.Bits.{bit_stays, bit_goes}

-- THE WAY AT A NODE

module _ {K F : Type 0} (fault : K → Option F) (order : K → K → Ordering) (key low high : K) where
  not_same : (o : Ordering) → o ≡ Equal → o ≢ Less
  not_same o e q = let z : ◌≡◌ {A = ℕ} 0 1 = cc in omega arith

  not_above : (o : Ordering) → o ≡ Greater → o ≢ Less
  not_above o e q = let z : ◌≡◌ {A = ℕ} 0 1 = cc in omega arith

  by_orders : (a b : Ordering) → order key low ≡ a → order key high ≡ b → WaySays order key low high (way_by {F = F} (Ok a) (Ok b))
  by_orders Less b p q = p
  by_orders Equal Less p q = (not_same (order key low) p, q)
  by_orders Equal Equal p q = (not_same (order key low) p, not_same (order key high) q)
  by_orders Equal Greater p q = (not_same (order key low) p, not_above (order key high) q)
  by_orders Greater Less p q = (not_above (order key low) p, q)
  by_orders Greater Equal p q = (not_above (order key low) p, not_same (order key high) q)
  by_orders Greater Greater p q = (not_above (order key low) p, not_above (order key high) q)

  pub way_tells : fault key ≡ None → fault low ≡ None → fault high ≡ None → WaySays order key low high (way_of fault order key low high)
  unfolding way_of
  way_tells k l h =
      rw (k, l, h) (by_orders (order key low) (order key high) refl refl)

-- THE RELEASE

and_parts : (a b : Bool) → a && b ≡ true → b ≡ true
and_parts true b e = e
and_parts false b e = let z : ◌≡◌ {A = ℕ} 0 1 = cc in let w : ⊥ = omega arith in elim w [ ]

and_false : (a b : Bool) → b ≡ false → a && b ≡ false
and_false true b e = e
and_false false b e = refl

module _ {K : Type 0} (s : ℕ) where
  pub is_without : (v : Node K) → waits_for s v ≡ true → Without s v (waiting_for (without_bit s v.waits) v)
  is_without v h = record {
    gone = bit_goes s v.waits (and_parts (eqb v.mark 2) (bit s v.waits) h);
    others = λ t ne. bit_stays s t v.waits ne;
    mark = refl;
    left = refl;
    right = refl;
    size = refl;
    region = refl;
  }

  -- after the release a cell that can be read does not wait for the session
  none_after : (c d : Cell K) (v : Node K) → CellAfter (released s c) c d → d ≡ readable v → waits_for s v ≡ false
  none_after (shut m) d v h e = let z : ◌≡◌ {A = ℕ} 0 1 = cc in let w : ⊥ = omega arith in elim w [ ]
  none_after (readable u) d v h e = by_test (waits_for s u) refl h
    where
      wrote : waits_for s u ≡ true → (d ≡ readable (waiting_for (without_bit s u.waits) u)) ⊎ (d ≡ shut (waiting_for (without_bit s u.waits) u).mark) → waits_for s v ≡ false
      wrote t (inl w) =
          let same : v ≡ waiting_for (without_bit s u.waits) u = cc in
          subst (λ x. waits_for s x ≡ false) (sym same)
          (and_false (eqb (waiting_for (without_bit s u.waits) u).mark 2) (bit s (without_bit s u.waits)) (is_without u t).gone)
      wrote t (inr w) = let z : ◌≡◌ {A = ℕ} 0 1 = cc in let x : ⊥ = omega arith in elim x [ ]

      by_test : (b : Bool) → waits_for s u ≡ b → CellAfter (cond b (Some (waiting_for (without_bit s u.waits) u)) None) (readable u) d → waits_for s v ≡ false
      by_test true t w = wrote t w
      by_test false t w = let same : v ≡ u = cc in ap (waits_for s) same ∙ t

  stays_after : (c d : Cell K) → CellAfter (released s c) c d → ((v : Node K) → c ≡ readable v → waits_for s v ≡ false) → d ≡ c
  stays_after (shut m) d h none = h
  stays_after (readable u) d h none =
      subst (λ b. CellAfter (cond b (Some (waiting_for (without_bit s u.waits) u)) None) (readable u) d) (none u refl) h

  released_after : (c d : Cell K) (v : Node K) → CellAfter (released s c) c d → c ≡ readable v → waits_for s v ≡ true → CellAfter (Some (waiting_for (without_bit s v.waits) v)) c d
  released_after c d v h e t =
      let e' : released s c ≡ Some (waiting_for (without_bit s v.waits) v) =
      ap (released s) e ∙ ap (λ b. cond b (Some (waiting_for (without_bit s v.waits) v)) None) t in
      subst (λ o. CellAfter o c d) e' h

  module _ (cs ds : List (Cell K)) (h : Rewritten (release s cs) cs ds) (n : ℕ) (e : outside n (length cs) ≡ false) where
    in_pool : 32 < n → CellAfter (released s (cell_at cs n)) (cell_at cs n) (cell_at ds n)
    in_pool p = subst (λ b. CellAfter (cond b (released s (cell_at cs n)) None) (cell_at cs n) (cell_at ds n)) (lt-ltb 32 n p) (h.each n e)

    stay : ((v : Node K) → 32 < n → cell_at cs n ≡ readable v → waits_for s v ≡ false) → cell_at ds n ≡ cell_at cs n
    stay none = by_side (ltb 32 n) refl (h.each n e)
      where
        by_side : (b : Bool) → ltb 32 n ≡ b → CellAfter (cond b (released s (cell_at cs n)) None) (cell_at cs n) (cell_at ds n) → cell_at ds n ≡ cell_at cs n
        by_side true t w = stays_after (cell_at cs n) (cell_at ds n) w (λ v q. none v (ltb-true 32 n t) q)
        by_side false t w = w

pub release_law : (K : Type 0) → ReleaseLaw K
release_law K s cs ds h = record {
  none_waits = λ n v e p is. none_after s (cell_at cs n) (cell_at ds n) v (in_pool s cs ds h n e p) is;
  released_are = λ n v e p is t. (
    waiting_for (without_bit s v.waits) v,
    is_without s v t,
    released_after s (cell_at cs n) (cell_at ds n) v (in_pool s cs ds h n e p) is t,
  );
  others_stay = λ n e none. stay s cs ds h n e none;
}
