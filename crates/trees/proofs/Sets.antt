-- The laws of the region set.
use Rattle.std.proofs.Common.{◌≡◌, ℕ, ◌+◌, ◌≤◌, Bool, true, false, cond, ◌&&◌, ◌||◌, T, ◌⊎◌, List, [], ◌∷◌, ◌++◌, Some, None, Option, sym, refl, ◌∙◌, subst, arith}
use Rattle.std.specs.declared.cmp.Ordering.TheVariants.{Equal}
use Rattle.trees.specs.Regions.{Ranges, Laws, below, upto, holds, Region, RegionSet, gives, holders, overlap, overlaps, set_put, set_replace, Parts}
use Rattle.trees.specs.Trees.{to_left, to_right, seek}
use Rattle.trees.specs.Edits.{Edit, Put, Drop, Split, Advance, set_after}
use Rattle.trees.specs.Steps.{Accepted, in_place, given_after, GivesOne}
use Rattle.trees.proofs.Risings.{All, all_append, Ahead}
use Rattle.trees.proofs.Orders.{chain, below_upto, not_below, below_chain, upto_below, upto_self, holds_low, holds_high, Before, before_chain, ways, Firm, firm, firm_set}

module _ {K R : Type 0} (g : Ranges K R) (laws : Laws g) where
  -- AT MOST ONE

  -- of two regions, one before the other, at most one holds a key
  pub not_both : (k : K) (x y : R) → g.Formed k → Before g laws x y → holds g x k ≡ true → holds g y k ≡ false
  not_both k x y p b e = by_way (ways g laws k p x y b)
    where
      by_way : (seek g k x ≡ to_right) ⊎ (seek g k y ≡ to_left) → holds g y k ≡ false
      by_way w = grind arith

  none_later : (k : K) (x : R) (xs : List R) → g.Formed k → holds g x k ≡ true → Ahead (Before g laws) x xs → holders g xs k ≡ 0
  none_later k x [] p e a = refl
  none_later k x (y ∷ xs) p e a = rw (not_both k x y p a.0 e) (omega (arith, none_later k x xs p e a.1))

  pub none_given : (k : K) (xs : List R) → holders g xs k ≡ 0 → gives g xs k ≡ None
  none_given k [] e = refl
  none_given k (x ∷ xs) e = step (none_given k xs) e
    where
      step : (holders g xs k ≡ 0 → gives g xs k ≡ None) → holders g (x ∷ xs) k ≡ 0 → gives g (x ∷ xs) k ≡ None
      step ih e = grind arith

  holders_one : (k : K) (xs : List R) → g.Formed k → Firm g laws xs → holders g xs k ≤ 1
  holders_one k [] p f = omega arith
  holders_one k (x ∷ xs) p f = by_test (holds g x k) refl (holders_one k xs p f.2)
    where
      by_test : (b : Bool) → holds g x k ≡ b → holders g xs k ≤ 1 → cond b 1 0 + holders g xs k ≤ 1
      by_test true e h = omega (arith, none_later k x xs p e f.1)
      by_test false e h = omega arith

  pub gives_holder : (k : K) (xs : List R) (x : R) → gives g xs k ≡ Some x → T (holds g x k)
  gives_holder k [] x e = let z : ◌≡◌ {A = ℕ} 0 1 = cc in absurd (omega arith)
  gives_holder k (y ∷ xs) x e = by_test (holds g y k) refl e (gives_holder k xs x)
    where
      by_test :
          (b : Bool) → holds g y k ≡ b → cond b (Some y) (gives g xs k) ≡ Some x → (gives g xs k ≡ Some x → T (holds g x k)) → T (holds g x k)
      by_test true h e ih = let same : y ≡ x = cc in subst (λ (z : R). T (holds g z k)) same (rw h tt)
      by_test false h e ih = ih e

  given_none : (k : K) (xs : List R) → gives g xs k ≡ None → holders g xs k ≡ 0
  given_none k [] e = refl
  given_none k (x ∷ xs) e = by_test (holds g x k) e (given_none k xs)
    where
      by_test : (b : Bool) → cond b (Some x) (gives g xs k) ≡ None → (gives g xs k ≡ None → holders g xs k ≡ 0) → cond b 1 0 + holders g xs k ≡ 0
      by_test true e ih = let z : ◌≡◌ {A = ℕ} 0 1 = cc in absurd (omega arith)
      by_test false e ih = omega (arith, ih e)

  pub gives_one : (xs : List R) (k : K) → RegionSet g xs → g.Formed k → GivesOne g xs k
  gives_one xs k s p = record { one = holders_one k xs p (firm g laws xs s); that_one = gives_holder k xs; or_none = given_none k xs }

  -- WHAT IS GIVEN AFTER

  both_overlap : (k : K) (x y : R) → g.Formed k → Region g x → Region g y → overlap g x y ≡ false → holds g x k ≡ true → holds g y k ≡ false
  both_overlap k x y p r s o e =
      grind (arith, upto_below g laws (g.low x) k (g.high y) r.low_formed p s.high_formed, upto_below g laws (g.low y) k (g.high x) s.low_formed p r.high_formed)

  pub none_overlap : (b c : Bool) → b || c ≡ false → (b ≡ false) × (c ≡ false)
  none_overlap true c e = let w : ◌≡◌ {A = ℕ} 0 1 = cc in absurd (omega arith)
  none_overlap false c e = (refl, e)

  given_put : (k : K) (x : R) (xs : List R) → g.Formed k → Region g x → Firm g laws xs → overlaps g x xs ≡ false →
      gives g (set_put g x xs) k ≡ cond (holds g x k) (Some x) (gives g xs k)
  given_put k x [] p r f o = refl
  given_put k x (y ∷ ys) p r f o =
      let n = none_overlap (overlap g x y) (overlaps g x ys) o in
      step (both_overlap k x y p r f.0 n.0) (given_put k x ys p r f.2 n.1)
    where
      step :
          (holds g x k ≡ true → holds g y k ≡ false) → gives g (set_put g x ys) k ≡ cond (holds g x k) (Some x) (gives g ys k) →
          gives g (set_put g x (y ∷ ys)) k ≡ cond (holds g x k) (Some x) (gives g (y ∷ ys) k)
      step h ih = grind arith

  -- what drop and split leave as it is: none of the list holds their key
  untouched : (j k : K) (f : R → Option R) (xs : List R) → holders g xs j ≡ 0 → in_place g j f (gives g xs k) ≡ gives g xs k
  untouched j k f [] e = refl
  untouched j k f (x ∷ xs) e = step (untouched j k f xs) e
    where
      step :
          (holders g xs j ≡ 0 → in_place g j f (gives g xs k) ≡ gives g xs k) → holders g (x ∷ xs) j ≡ 0 →
          in_place g j f (gives g (x ∷ xs) k) ≡ gives g (x ∷ xs) k
      step ih e = grind arith

  pub gives_short : (k : K) (xs ys : List R) → gives g ys k ≡ None → gives g (xs ++ ys) k ≡ gives g xs k
  gives_short k [] ys e = e
  gives_short k (x ∷ xs) ys e = cc (gives_short k xs ys e)

  pub gives_past : (k : K) (xs ys : List R) → gives g xs k ≡ None → gives g (xs ++ ys) k ≡ gives g ys k
  gives_past k [] ys e = refl
  gives_past k (x ∷ xs) ys e = by_test (holds g x k) (gives_past k xs ys) e
    where
      by_test :
          (b : Bool) → (gives g xs k ≡ None → gives g (xs ++ ys) k ≡ gives g ys k) → cond b (Some x) (gives g xs k) ≡ None →
          cond b (Some x) (gives g (xs ++ ys) k) ≡ gives g ys k
      by_test true ih e = let z : ◌≡◌ {A = ℕ} 0 1 = cc in absurd (omega arith)
      by_test false ih e = ih e

  -- the regions zs, in place of x, hold no key but those that x holds, and give for those what is said
  pub record Instead (k : K) (x : R) (zs : List R) (says : Option R) : Type 0 where
    pub within : holds g x k ≡ true → gives g zs k ≡ says
    pub without : holds g x k ≡ false → gives g zs k ≡ None

  pub first_given : (j : K) (x : R) (xs : List R) → holds g x j ≡ true → gives g (x ∷ xs) j ≡ Some x
  first_given j x xs e = rw e

  later_given : (j : K) (x y : R) (xs : List R) → holds g x j ≡ false → gives g xs j ≡ Some y → gives g (x ∷ xs) j ≡ Some y
  later_given j x y xs e h = rw e h

  given_replace :
      (j k : K) (f : R → List R) (says : R → Option R) (xs : List R) → g.Formed j → g.Formed k → Firm g laws xs →
      ((x : R) → Region g x → gives g xs j ≡ Some x → Instead k x (f x) (says x)) →
      gives g (set_replace g j f xs) k ≡ in_place g j says (gives g xs k)
  given_replace j k f says [] p q r h = refl
  given_replace j k f says (x ∷ xs) p q r h =
      by_test (holds g x j) refl (holds g x k) refl
      (λ (e : holds g x j ≡ false). given_replace j k f says xs p q r.2 (λ y s d. h y s (later_given j x y xs e d)))
    where
      by_test :
          (b : Bool) → holds g x j ≡ b → (c : Bool) → holds g x k ≡ c →
          (holds g x j ≡ false → gives g (set_replace g j f xs) k ≡ in_place g j says (gives g xs k)) →
          gives g (cond b (f x ++ xs) (x ∷ set_replace g j f xs)) k ≡ in_place g j says (cond c (Some x) (gives g xs k))
      by_test true e true d ih =
          gives_short k (f x) xs (none_given k xs (none_later k x xs q d r.1))
          ∙ (h x r.0 (first_given j x xs e)).within d ∙ rw e
      by_test true e false d ih =
          gives_past k (f x) xs ((h x r.0 (first_given j x xs e)).without d)
          ∙ sym (untouched j k says xs (none_later j x xs p e r.1))
      by_test false e true d ih = rw (d, e)
      by_test false e false d ih = rw d (ih e)

  -- a drop leaves nothing, a split the two parts
  instead_none : (k : K) (x : R) → Instead k x [] None
  instead_none k x = record { within = λ e. refl; without = λ e. refl }

  pub holder_true : (k : K) (x : R) → T (holds g x k) → holds g x k ≡ true
  holder_true k x h = grind arith

  -- the region that holds b begins below it
  pub begins_below : (b : K) (x : R) → holds g x b ≡ true → (g.order (g.low x) b ≡ Equal → ⊥) → T (below g (g.low x) b)
  begins_below b x e n = let h = holds_low g laws b x e in grind arith

  module _ (b : K) (lower upper : R → R) (parts : Parts g b lower upper) (b-formed : g.Formed b) (x : R) (r : Region g x)
      (starts : T (below g (g.low x) b)) (ends : T (below g b (g.high x))) where
    instead_parts : (k : K) → g.Formed k → Instead k x (lower x ∷ (upper x ∷ [])) (Some (cond (below g k b) (lower x) (upper x)))
    instead_parts k p = record { within = within; without = without }
      where
        lower_holds : holds g (lower x) k ≡ upto g (g.low x) k && below g k b
        lower_holds = rw (parts.lower_low x, parts.lower_high x)

        upper_holds : holds g (upper x) k ≡ upto g b k && below g k (g.high x)
        upper_holds = rw (parts.upper_low x, parts.upper_high x)

        within : holds g x k ≡ true → gives g (lower x ∷ (upper x ∷ [])) k ≡ Some (cond (below g k b) (lower x) (upper x))
        within e = rw (lower_holds, upper_holds) (grind (arith, not_below g laws k b p b-formed, holds_low g laws k x e, holds_high g laws k x e))

        without : holds g x k ≡ false → gives g (lower x ∷ (upper x ∷ [])) k ≡ None
        without e =
            rw (lower_holds, upper_holds)
            (grind (
              arith,
              below_chain g laws k b (g.high x) p b-formed r.high_formed,
              below_upto g laws b (g.high x),
              chain g laws (g.low x) b k r.low_formed b-formed p,
              below_upto g laws (g.low x) b,
            ))

    pub lower_region : Region g (lower x)
    lower_region = record {
      low_formed = rw (parts.lower_low x) r.low_formed;
      high_formed = rw (parts.lower_high x) b-formed;
      rises = rw (parts.lower_low x, parts.lower_high x) starts;
    }

    pub upper_region : Region g (upper x)
    upper_region = record {
      low_formed = rw (parts.upper_low x) b-formed;
      high_formed = rw (parts.upper_high x) r.high_formed;
      rises = rw (parts.upper_low x, parts.upper_high x) ends;
    }

  pub gives_after :
      (e : Edit K R) (xs : List R) (k : K) → RegionSet g xs → Accepted g e xs → g.Formed k →
      gives g (set_after g e xs) k ≡ given_after g e k (gives g xs k)
  gives_after (Put x) xs k s a p = given_put k x xs p a.0 (firm g laws xs s) a.1
  gives_after (Drop j) xs k s a p = given_replace j k (λ x. []) (λ x. None) xs a p (firm g laws xs s) (λ x r d. instead_none k x)
  gives_after (Split b lower upper) xs k s (f, parts, not) p =
      given_replace b k (λ x. lower x ∷ (upper x ∷ [])) (λ x. Some (cond (below g k b) (lower x) (upper x))) xs f p (firm g laws xs s)
      (λ x r d. let h = holder_true b x (gives_holder b xs x d) in
      instead_parts b lower upper parts f x r (begins_below b x h (not x d)) (holds_high g laws b x h) k p)
  gives_after Advance xs k s a p = refl

  -- WHAT KEEPS A REGION SET ONE

  abbrev Aheads : List R → List R → Type 0
  Aheads zs ys = All (λ z. Ahead (Before g laws) z ys) zs

  -- the regions zs fit where x stood
  record Fills (x : R) (zs : List R) : Type 0 where
    fit : Firm g laws zs
    after : (w : R) → Before g laws w x → Ahead (Before g laws) w zs
    before : (ys : List R) → Ahead (Before g laws) x ys → Aheads zs ys

  firm_append : (zs ys : List R) → Firm g laws zs → Aheads zs ys → Firm g laws ys → Firm g laws (zs ++ ys)
  firm_append [] ys f a h = h
  firm_append (z ∷ zs) ys f a h = (f.0, all_append (Before g laws z) zs ys f.1 a.0, firm_append zs ys f.2 a.1 h)

  ahead_as : (x z : R) (ys : List R) → ((y : R) → Before g laws x y → Before g laws z y) → Ahead (Before g laws) x ys → Ahead (Before g laws) z ys
  ahead_as x z [] h a = tt
  ahead_as x z (y ∷ ys) h a = (h y a.0, ahead_as x z ys h a.1)

  module _ (j : K) (f : R → List R) where
    replace_ahead :
        (w : R) (xs : List R) → Firm g laws xs → ((x : R) → Region g x → gives g xs j ≡ Some x → Fills x (f x)) →
        Ahead (Before g laws) w xs → Ahead (Before g laws) w (set_replace g j f xs)
    replace_ahead w [] r h a = tt
    replace_ahead w (x ∷ xs) r h a =
        by_test (holds g x j) refl (λ e. replace_ahead w xs r.2 (λ y s d. h y s (later_given j x y xs e d)) a.1)
      where
        by_test :
            (b : Bool) → holds g x j ≡ b → (holds g x j ≡ false → Ahead (Before g laws) w (set_replace g j f xs)) →
            Ahead (Before g laws) w (cond b (f x ++ xs) (x ∷ set_replace g j f xs))
        by_test true e ih = all_append (Before g laws w) (f x) xs ((h x r.0 (first_given j x xs e)).after w a.0) a.1
        by_test false e ih = (a.0, ih e)

    replace_firm :
        (xs : List R) → Firm g laws xs → ((x : R) → Region g x → gives g xs j ≡ Some x → Fills x (f x)) → Firm g laws (set_replace g j f xs)
    replace_firm [] r h = tt
    replace_firm (x ∷ xs) r h = by_test (holds g x j) refl (λ e. replace_firm xs r.2 (λ y s d. h y s (later_given j x y xs e d)))
      where
        by_test :
            (b : Bool) → holds g x j ≡ b → (holds g x j ≡ false → Firm g laws (set_replace g j f xs)) →
            Firm g laws (cond b (f x ++ xs) (x ∷ set_replace g j f xs))
        by_test true e ih = let v = h x r.0 (first_given j x xs e) in firm_append (f x) xs v.fit (v.before xs r.1) r.2
        by_test false e ih =
            (r.0, replace_ahead x xs r.2 (λ y s d. h y s (later_given j x y xs e d)) r.1, ih e)

  fills_none : (x : R) → Fills x []
  fills_none x = record { fit = tt; after = λ w b. tt; before = λ ys a. tt }

  module _ (b : K) (lower upper : R → R) (parts : Parts g b lower upper) (b-formed : g.Formed b) (x : R) (r : Region g x)
      (starts : T (below g (g.low x) b)) (ends : T (below g b (g.high x))) where
    lower_before : (y : R) → Before g laws x y → Before g laws (lower x) y
    lower_before y e = record {
      first = lower_region b lower upper parts b-formed x r starts ends;
      second = e.second;
      gap =
          rw (parts.lower_high x)
          (chain g laws b (g.high x) (g.low y) b-formed r.high_formed e.second.low_formed (below_upto g laws b (g.high x) ends) e.gap);
    }

    upper_before : (y : R) → Before g laws x y → Before g laws (upper x) y
    upper_before y e = record { first = upper_region b lower upper parts b-formed x r starts ends; second = e.second; gap = rw (parts.upper_high x) e.gap }

    lower_after : (w : R) → Before g laws w x → Before g laws w (lower x)
    lower_after w e = record { first = e.first; second = lower_region b lower upper parts b-formed x r starts ends; gap = rw (parts.lower_low x) e.gap }

    upper_after : (w : R) → Before g laws w x → Before g laws w (upper x)
    upper_after w e = record {
      first = e.first;
      second = upper_region b lower upper parts b-formed x r starts ends;
      gap =
          rw (parts.upper_low x)
          (chain g laws (g.high w) (g.low x) b e.first.high_formed r.low_formed b-formed e.gap (below_upto g laws (g.low x) b starts));
    }

    parts_meet : Before g laws (lower x) (upper x)
    parts_meet = record {
      first = lower_region b lower upper parts b-formed x r starts ends;
      second = upper_region b lower upper parts b-formed x r starts ends;
      gap = rw (parts.lower_high x, parts.upper_low x) (upto_self g laws b b-formed);
    }

    fills_parts : Fills x (lower x ∷ (upper x ∷ []))
    fills_parts = record {
      fit = (parts_meet.first, (parts_meet, tt), (parts_meet.second, tt, tt));
      after = λ w e. (lower_after w e, (upper_after w e, tt));
      before = λ ys a. (ahead_as x (lower x) ys lower_before a, (ahead_as x (upper x) ys upper_before a, tt));
    }

  -- of two regions that do not overlap, the one that does not begin above the other is before it
  apart : (x y : R) → Region g x → Region g y → overlap g x y ≡ false → T (upto g (g.low x) (g.low y)) → Before g laws x y
  apart x y rx ry e h = record { first = rx; second = ry; gap = gap }
    where
      gap : T (upto g (g.high x) (g.low y))
      gap =
          grind (
            arith,
            not_below g laws (g.low y) (g.high x) ry.low_formed rx.high_formed,
            upto_below g laws (g.low x) (g.low y) (g.high y) rx.low_formed ry.low_formed ry.high_formed h ry.rises,
          )

  overlap_turns : (x y : R) → overlap g x y ≡ overlap g y x
  overlap_turns x y = grind arith

  -- put
  module _ (z : R) (rz : Region g z) where
    put_ahead : (x : R) (ys : List R) → Before g laws x z → Ahead (Before g laws) x ys → Ahead (Before g laws) x (set_put g z ys)
    put_ahead x [] b a = (b, tt)
    put_ahead x (y ∷ ys) b a = by_test (below g (g.low z) (g.low y)) (put_ahead x ys b a.1)
      where
        by_test : (t : Bool) → Ahead (Before g laws) x (set_put g z ys) → Ahead (Before g laws) x (cond t (z ∷ (y ∷ ys)) (y ∷ set_put g z ys))
        by_test true h = (b, a)
        by_test false h = (a.0, h)

    put_firm : (ys : List R) → Firm g laws ys → overlaps g z ys ≡ false → Firm g laws (set_put g z ys)
    put_firm [] f e = (rz, tt, tt)
    put_firm (y ∷ ys) f e =
        let n = none_overlap (overlap g z y) (overlaps g z ys) e in
        by_test (below g (g.low z) (g.low y)) refl n.0 (put_firm ys f.2 n.1)
      where
        by_test :
            (t : Bool) → below g (g.low z) (g.low y) ≡ t → overlap g z y ≡ false → Firm g laws (set_put g z ys) →
            Firm g laws (cond t (z ∷ (y ∷ ys)) (y ∷ set_put g z ys))
        by_test true h n ih =
            let b = apart z y rz f.0 n (below_upto g laws (g.low z) (g.low y) (rw h tt)) in
            (rz, (b, ahead_as y z ys (λ x c. before_chain g laws z y x b c) f.1), f)
        by_test false h n ih = (f.0, put_ahead y ys (apart y z f.0 rz (overlap_turns y z ∙ n) (not_below g laws (g.low z) (g.low y) rz.low_formed f.0.low_formed h)) f.1, ih)

  after_firm : (e : Edit K R) (xs : List R) → Accepted g e xs → Firm g laws xs → Firm g laws (set_after g e xs)
  after_firm (Put x) xs a f = put_firm x a.0 xs f a.1
  after_firm (Drop k) xs a f = replace_firm k (λ x. []) xs f (λ x r d. fills_none x)
  after_firm (Split b lower upper) xs (p, parts, not) f =
      replace_firm b (λ x. lower x ∷ (upper x ∷ [])) xs f (λ x r d.
      let h = holder_true b x (gives_holder b xs x d) in
      fills_parts b lower upper parts p x r (begins_below b x h (not x d)) (holds_high g laws b x h))
  after_firm Advance xs a f = f

  pub keeps_set : (e : Edit K R) (xs : List R) → RegionSet g xs → Accepted g e xs → RegionSet g (set_after g e xs)
  keeps_set e xs s a = firm_set g laws (set_after g e xs) (after_firm e xs a (firm g laws xs s))
