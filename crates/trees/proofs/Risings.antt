-- Lists in which each is before all that follow.
use Rattle.std.proofs.Common.{◌≡◌, ◌⊎◌, List, [], ◌∷◌, ◌++◌}
use Rattle.trees.specs.Trees.{Turn, to_left, to_right}

-- All that trees need of the order: where x is before y, a search goes right at x or left at y.
abbrev pub PartsWays : {R : Type 0} → (R → R → Type 0) → (R → Turn) → Type 0
PartsWays {R} Before turn = (x y : R) → Before x y → (turn x ≡ to_right) ⊎ (turn y ≡ to_left)

abbrev pub All : {R : Type 0} → (R → Type 0) → List R → Type 0
All P [] = Unit {0}
All P (x ∷ xs) = P x × All P xs

module _ {R : Type 0} (P : R → Type 0) where
  pub all_mid : (xs : List R) (y : R) (ys : List R) → All P (xs ++ (y ∷ ys)) → All P xs × P y × All P ys
  all_mid [] y ys h = (tt, h.0, h.1)
  all_mid (x ∷ xs) y ys h = let g = all_mid xs y ys h.1 in ((h.0, g.0), g.1, g.2)

  pub all_rest : (xs ys : List R) → All P (xs ++ ys) → All P ys
  all_rest [] ys h = h
  all_rest (x ∷ xs) ys h = all_rest xs ys h.1

  pub all_front : (xs ys : List R) → All P (xs ++ ys) → All P xs
  all_front [] ys h = tt
  all_front (x ∷ xs) ys h = (h.0, all_front xs ys h.1)

  pub all_append : (xs ys : List R) → All P xs → All P ys → All P (xs ++ ys)
  all_append [] ys a b = b
  all_append (x ∷ xs) ys a b = (a.0, all_append xs ys a.1 b)

module _ {R : Type 0} (Before : R → R → Type 0) where
  abbrev pub Ahead : R → List R → Type 0
  Ahead x ys = All (Before x) ys

  abbrev pub Behind : List R → R → Type 0
  Behind xs y = All (λ x. Before x y) xs

  abbrev pub Rising : List R → Type 0
  Rising [] = Unit {0}
  Rising (x ∷ xs) = Ahead x xs × Rising xs

  pub record Mid (xs : List R) (y : R) (ys : List R) : Type 0 where
    pub fore : Rising xs
    pub behind : Behind xs y
    pub ahead : Ahead y ys
    pub aft : Rising ys

  -- a rising list taken apart at one of its elements
  pub rising_mid : (xs : List R) (y : R) (ys : List R) → Rising (xs ++ (y ∷ ys)) → Mid xs y ys
  rising_mid [] y ys h = record { fore = tt; behind = tt; ahead = h.0; aft = h.1 }
  rising_mid (x ∷ xs) y ys h =
      let a = all_mid (Before x) xs y ys h.0 in
      let g = rising_mid xs y ys h.1 in
      record { fore = (a.0, g.fore); behind = (a.1, g.behind); ahead = g.ahead; aft = g.aft }

  -- two and three of a rising list
  pub two_rise : (ws : List R) (x : R) (bs : List R) (y : R) (cs : List R) → Rising (ws ++ (x ∷ (bs ++ (y ∷ cs)))) → Before x y
  two_rise [] x bs y cs h = (all_mid (Before x) bs y cs h.0).1
  two_rise (w ∷ ws) x bs y cs h = two_rise ws x bs y cs h.1

  pub three_rise :
      (ws : List R) (x : R) (bs : List R) (y : R) (cs : List R) (z : R) (ds : List R) →
      Rising (ws ++ (x ∷ (bs ++ (y ∷ (cs ++ (z ∷ ds)))))) → Before x y × Before y z × Before x z
  three_rise [] x bs y cs z ds h =
      let a = all_mid (Before x) bs y (cs ++ (z ∷ ds)) h.0 in
      (a.1, two_rise bs y cs z ds h.1, (all_mid (Before x) cs z ds a.2).1)
  three_rise (w ∷ ws) x bs y cs z ds h = three_rise ws x bs y cs z ds h.1

  -- one left out
  pub rising_without : (xs : List R) (y : R) (ys : List R) → Rising (xs ++ (y ∷ ys)) → Rising (xs ++ ys)
  rising_without [] y ys h = h.1
  rising_without (x ∷ xs) y ys h = (let a = all_mid (Before x) xs y ys h.0 in all_append (Before x) xs ys a.0 a.2, rising_without xs y ys h.1)

  -- a part of a rising list rises
  rising_front : (xs ys : List R) → Rising (xs ++ ys) → Rising xs
  rising_front [] ys h = tt
  rising_front (x ∷ xs) ys h = (all_front (Before x) xs ys h.0, rising_front xs ys h.1)

  pub rising_part : (xs ys zs : List R) → Rising (xs ++ (ys ++ zs)) → Rising ys
  rising_part [] ys zs h = rising_front ys zs h
  rising_part (x ∷ xs) ys zs h = rising_part xs ys zs h.1
