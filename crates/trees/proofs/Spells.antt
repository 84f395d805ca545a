-- In order, the tree after an edit is the region set after it; and a search finds what the set gives.
use Rattle.std.proofs.Common.{◌≡◌, ℕ, ◌+◌, Bool, true, false, List, [], ◌∷◌, ◌++◌, Some, None, sym, refl, ap, ◌∙◌, inl, inr, append_assoc, arith}
use Rattle.trees.specs.Regions.{Ranges, Laws, holds, Region, RegionSet, gives, holders, overlap, overlaps, set_put, set_replace}
use Rattle.trees.specs.Trees.{Side, left, right, Turn, to_left, here, to_right, towards, at_turn, Tree, leaf, node, beside, inorder, seek, found}
use Rattle.trees.specs.Edits.{Frame, frame, descend}
use Rattle.trees.proofs.Risings.{All, all_append, PartsWays, Ahead, Behind, Rising, Mid, rising_mid}
use Rattle.trees.proofs.Orders.{upto_below, left_says, here_says, Before, ways, firm, firm_rises}
use Rattle.trees.proofs.Sets.{none_overlap, gives_short, gives_past, first_given}
use Rattle.trees.proofs.Places.{befores, afters, plug_order, descend_keeps, descend_whole, Ends, descend_ends}

not_same : (v : Turn) → v ≡ to_left → v ≡ to_right → ⊥
not_same v e f = let z : ◌≡◌ {A = ℕ} 0 1 = cc in omega arith

not_here_left : (v : Turn) → v ≡ here → v ≡ to_left → ⊥
not_here_left v e f = let z : ◌≡◌ {A = ℕ} 0 1 = cc in omega arith

not_here_right : (v : Turn) → v ≡ here → v ≡ to_right → ⊥
not_here_right v e f = let z : ◌≡◌ {A = ℕ} 0 1 = cc in omega arith

-- A SEARCH IN A LIST: it goes right at all, or left at all

module _ {R : Type 0} (turn : R → Turn) where
  abbrev pub AllTurn : Turn → List R → Type 0
  AllTurn v xs = All (λ x. turn x ≡ v) xs

  module _ (Before : R → R → Type 0) (parts : PartsWays Before turn) where
    pub lefts : (x : R) (ys : List R) → (turn x ≡ to_right → ⊥) → Ahead Before x ys → AllTurn to_left ys
    lefts x [] n a = tt
    lefts x (y ∷ ys) n a = (elim (parts x y a.0) [ inl e ↦ absurd (n e) | inr e ↦ e ], lefts x ys n a.1)

    pub rights : (y : R) (xs : List R) → (turn y ≡ to_left → ⊥) → Behind Before xs y → AllTurn to_right xs
    rights y [] n a = tt
    rights y (x ∷ xs) n a = (elim (parts x y a.0) [ inl e ↦ e | inr e ↦ absurd (n e) ], rights y xs n a.1)

    -- what the way down leaves on its left and on its right
    pub record Between {L : Type 0} (fs : List (Frame L R)) (t : Tree L R) : Type 0 where
      pub lows : AllTurn to_right (befores fs)
      pub highs : AllTurn to_left (afters fs)
      pub rising : Rising Before (inorder t)

    down_between :
        {L : Type 0} (s : Side) (fs : List (Frame L R)) (o : L) (t : Tree L R) (x : R) (u : Tree L R) → turn x ≡ towards s →
        Between fs (beside s o t x u) → Between (frame s o x u ∷ fs) t
    down_between left fs o t x u e b =
        let m = rising_mid Before (inorder t) x (inorder u) b.rising in
        record {
          lows = b.lows;
          highs = (e, all_append (λ y. turn y ≡ to_left) (inorder u) (afters fs) (lefts x (inorder u) (not_same (turn x) e) m.ahead) b.highs);
          rising = m.fore;
        }
    down_between right fs o t x u e b =
        let m = rising_mid Before (inorder u) x (inorder t) b.rising in
        record {
          lows =
              all_append (λ y. turn y ≡ to_right) (befores fs) (inorder u ++ (x ∷ [])) b.lows
              (all_append (λ y. turn y ≡ to_right) (inorder u) (x ∷ []) (rights x (inorder u) (λ f. not_same (turn x) f e) m.behind) (e, tt));
          highs = b.highs;
          rising = m.aft;
        }

    pub descend_between : {L : Type 0} (t : Tree L R) → Rising Before (inorder t) → Between (descend turn [] t).above (descend turn [] t).under
    descend_between t h =
        descend_keeps turn (λ fs u. Between fs u) down_between [] t (record { lows = tt; highs = tt; rising = h })

-- CHANGES AT THE SEARCH'S PLACE

pub record Local {R : Type 0} (turn : R → Turn) (change : List R → List R) : Type 0 where
  pub past : (x : R) (xs : List R) → turn x ≡ to_right → change (x ∷ xs) ≡ x ∷ change xs
  pub short : (xs ys : List R) → AllTurn turn to_left ys → change (xs ++ ys) ≡ change xs ++ ys

module _ {R : Type 0} (turn : R → Turn) (change : List R → List R) (loc : Local turn change) where
  pub local_past : (xs ys : List R) → AllTurn turn to_right xs → change (xs ++ ys) ≡ xs ++ change ys
  local_past [] ys h = refl
  local_past (x ∷ xs) ys h = loc.past x (xs ++ ys) h.0 ∙ ap (λ (zs : List R). x ∷ zs) (local_past xs ys h.1)

  pub local_mid : (xs ys zs : List R) → AllTurn turn to_right xs → AllTurn turn to_left zs → change (xs ++ (ys ++ zs)) ≡ xs ++ (change ys ++ zs)
  local_mid xs ys zs h k = local_past xs (ys ++ zs) h ∙ ap (λ (vs : List R). xs ++ vs) (loc.short ys zs k)

  -- the tree under the link changed as the list is: the whole changed so
  module _ (Before : R → R → Type 0) (parts : PartsWays Before turn) where
    pub changed_order :
        {L : Type 0} (t : Tree L R) (list : List R) → Rising Before (inorder t) → list ≡ change (inorder (descend turn [] t).under) →
        befores (descend turn [] t).above ++ (list ++ afters (descend turn [] t).above) ≡ change (inorder t)
    changed_order t list h e =
        let p = descend turn [] t in
        let b = descend_between turn Before parts t h in
        ap (λ (xs : List R). befores p.above ++ (xs ++ afters p.above)) e
        ∙ sym (local_mid (befores p.above) (inorder p.under) (afters p.above) b.lows b.highs)
        ∙ ap change (sym (plug_order p.above p.under) ∙ ap inorder (descend_whole turn [] t))

module _ {K R : Type 0} (g : Ranges K R) (laws : Laws g) where
  pub put_local : (z : R) → Local (seek g (g.low z)) (set_put g z)
  put_local z = record { past = past; short = short }
    where
      past : (x : R) (xs : List R) → seek g (g.low z) x ≡ to_right → set_put g z (x ∷ xs) ≡ x ∷ set_put g z xs
      past x xs e = grind arith

      none : (ys : List R) → AllTurn (seek g (g.low z)) to_left ys → set_put g z ys ≡ z ∷ ys
      none [] h = refl
      none (y ∷ ys) h = let e = left_says g laws (g.low z) y h.0 in grind arith

      step : (x : R) (xs ys : List R) → set_put g z (xs ++ ys) ≡ set_put g z xs ++ ys → set_put g z (x ∷ (xs ++ ys)) ≡ set_put g z (x ∷ xs) ++ ys
      step x xs ys ih = grind arith

      short : (xs ys : List R) → AllTurn (seek g (g.low z)) to_left ys → set_put g z (xs ++ ys) ≡ set_put g z xs ++ ys
      short [] ys h = none ys h
      short (x ∷ xs) ys h = step x xs ys (short xs ys h)

  pub replace_local : (k : K) (f : R → List R) → Local (seek g k) (set_replace g k f)
  replace_local k f = record { past = past; short = short }
    where
      past : (x : R) (xs : List R) → seek g k x ≡ to_right → set_replace g k f (x ∷ xs) ≡ x ∷ set_replace g k f xs
      past x xs e = grind arith

      none_step : (y : R) (ys : List R) → seek g k y ≡ to_left → set_replace g k f ys ≡ ys → set_replace g k f (y ∷ ys) ≡ y ∷ ys
      none_step y ys e ih = grind arith

      none : (ys : List R) → AllTurn (seek g k) to_left ys → set_replace g k f ys ≡ ys
      none [] h = refl
      none (y ∷ ys) h = none_step y ys h.0 (none ys h.1)

      step :
          (x : R) (xs ys : List R) → set_replace g k f (xs ++ ys) ≡ set_replace g k f xs ++ ys →
          set_replace g k f (x ∷ (xs ++ ys)) ≡ set_replace g k f (x ∷ xs) ++ ys
      step x xs ys ih = grind (arith, append_assoc (f x) xs ys)

      short : (xs ys : List R) → AllTurn (seek g k) to_left ys → set_replace g k f (xs ++ ys) ≡ set_replace g k f xs ++ ys
      short [] ys h = none ys h
      short (x ∷ xs) ys h = step x xs ys (short xs ys h)

  -- at the region itself
  pub replace_here :
      (k : K) (f : R → List R) (xs : List R) (x : R) (ys : List R) → g.Formed k → Rising (Before g laws) (xs ++ (x ∷ ys)) → seek g k x ≡ here →
      set_replace g k f (xs ++ (x ∷ ys)) ≡ xs ++ (f x ++ ys)
  replace_here k f xs x ys p h e =
      let m = rising_mid (Before g laws) xs x ys h in
      let r = rights (seek g k) (Before g laws) (ways g laws k p) x xs (not_here_left (seek g k x) e) m.behind in
      local_past (seek g k) (set_replace g k f) (replace_local k f) xs (x ∷ ys) r ∙ ap (λ (zs : List R). xs ++ zs) (at_head (here_says g laws k x e))
    where
      at_head : holds g x k ≡ true → set_replace g k f (x ∷ ys) ≡ f x ++ ys
      at_head d = rw d

  -- a put ends at an empty link
  put_alone : (x : R) (ys : List R) → Region g x → overlaps g x ys ≡ false → RegionSet g ys → holders g ys (g.low x) ≡ 0
  put_alone x [] r e s = refl
  put_alone x (y ∷ ys) r e s =
      let n = none_overlap g laws (overlap g x y) (overlaps g x ys) e in
      rw (apart n.0) (omega (arith, put_alone x ys r n.1 s.2))
    where
      apart : overlap g x y ≡ false → holds g y (g.low x) ≡ false
      apart o = grind (arith, upto_below g laws (g.low y) (g.low x) (g.high x) s.0.low_formed r.low_formed r.high_formed, r.rises)

  holders_append : (k : K) (xs ys : List R) → holders g (xs ++ ys) k ≡ holders g xs k + holders g ys k
  holders_append k [] ys = omega arith
  holders_append k (x ∷ xs) ys = omega (arith, holders_append k xs ys)

  none_under : {L : Type 0} (k : K) (t : Tree L R) → Ends (seek g k) t → holders g (inorder t) k ≡ 0 → t ≡ leaf
  none_under k leaf e h = refl
  none_under k (node o l x r) e h = absurd (held (here_says g laws k x e) (holders_append k (inorder l) (x ∷ inorder r)))
    where
      held : holds g x k ≡ true → holders g (inorder l ++ (x ∷ inorder r)) k ≡ holders g (inorder l) k + holders g (x ∷ inorder r) k → ⊥
      held d s = grind arith

  pub put_under :
      {L : Type 0} (x : R) (t : Tree L R) → Region g x → overlaps g x (inorder t) ≡ false → RegionSet g (inorder t) →
      (descend (seek g (g.low x)) [] t).under ≡ leaf
  put_under x t r e s =
      let k = g.low x in
      let p = descend (seek g k) [] t in
      let a = put_alone x (inorder t) r e s in
      let o = plug_order p.above p.under in
      let w = ap (λ u. holders g (inorder u) k) (descend_whole (seek g k) [] t) in
      let b = ap (λ (ys : List R). holders g ys k) o in
      let c = holders_append k (befores p.above) (inorder p.under ++ afters p.above) in
      let d = holders_append k (inorder p.under) (afters p.above) in
      none_under k p.under (descend_ends (seek g k) [] t) (omega arith)

  -- WHAT A SEARCH FINDS
  not_held : (k : K) (x : R) (v : Turn) → seek g k x ≡ v → (v ≡ here → ⊥) → holds g x k ≡ false
  not_held k x v e n = by_test (holds g x k) refl
    where
      by_test : (b : Bool) → holds g x k ≡ b → b ≡ false
      by_test true h = absurd (n (sym e ∙ rw h))
      by_test false h = refl

  gives_none : (k : K) (v : Turn) (xs : List R) → (v ≡ here → ⊥) → AllTurn (seek g k) v xs → gives g xs k ≡ None
  gives_none k v [] n h = refl
  gives_none k v (x ∷ xs) n h = rw (not_held k x v h.0 n) (gives_none k v xs n h.1)

  pub finds : {L : Type 0} (k : K) (t : Tree L R) → g.Formed k → Rising (Before g laws) (inorder t) → found (seek g k) t ≡ gives g (inorder t) k
  finds k leaf p h = refl
  finds k (node o l x r) p h =
      let m = rising_mid (Before g laws) (inorder l) x (inorder r) h in
      by_turn (seek g k x) refl m (finds k l p m.fore) (finds k r p m.aft)
    where
      lows : Mid (Before g laws) (inorder l) x (inorder r) → (seek g k x ≡ to_left → ⊥) → gives g (inorder l) k ≡ None
      lows m n =
          gives_none k to_right (inorder l) (λ e. not_here_right to_right e refl)
          (rights (seek g k) (Before g laws) (ways g laws k p) x (inorder l) n m.behind)

      by_turn :
          (v : Turn) → seek g k x ≡ v → Mid (Before g laws) (inorder l) x (inorder r) → found (seek g k) l ≡ gives g (inorder l) k →
          found (seek g k) r ≡ gives g (inorder r) k →
          at_turn v (found (seek g k) l) (Some x) (found (seek g k) r) ≡ gives g (inorder l ++ (x ∷ inorder r)) k
      by_turn to_left e m a b =
          let hs : AllTurn (seek g k) to_left (x ∷ inorder r) =
          (e, lefts (seek g k) (Before g laws) (ways g laws k p) x (inorder r) (not_same (seek g k x) e) m.ahead) in
          a ∙ sym (gives_short g laws k (inorder l) (x ∷ inorder r) (gives_none k to_left (x ∷ inorder r) (λ d. not_here_left to_left d refl) hs))
      by_turn here e m a b =
          sym (gives_past g laws k (inorder l) (x ∷ inorder r) (lows m (not_here_left (seek g k x) e)) ∙ first_given g laws k x (inorder r) (here_says g laws k x e))
      by_turn to_right e m a b =
          let n : holds g x k ≡ false = not_held k x to_right e (λ d. not_here_right to_right d refl) in
          b ∙ sym (gives_past g laws k (inorder l) (x ∷ inorder r) (lows m (λ d. not_same (seek g k x) d e)) ∙ rw n)

  pub set_finds : (t : Tree ℕ R) (k : K) → RegionSet g (inorder t) → g.Formed k → found (seek g k) t ≡ gives g (inorder t) k
  set_finds t k s p = finds k t p (firm_rises g laws (inorder t) (firm g laws (inorder t) s))
