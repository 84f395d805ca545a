-- The search for free nodes.
use Rattle.std.proofs.Common.{◌≡◌, ℕ, zero, suc, ◌+◌, ◌-◌, ◌<◌, ◌≤◌, min, Bool, true, false, cond, eqb, ◌≢◌, ◌⊎◌, List, [], ◌∷◌, ◌++◌, length, Ok, Err, Result, sym, refl, ap, ◌∙◌, subst, inl, inr, append_assoc, append-nil, add-zero, add_assoc, add-suc, arith, length-append}
use Rattle.std.proofs.lemmas.Bool.{eqb-true, ne_eqb, le-ltb, cases_lt}
use Rattle.store.specs.declared.fault.StoreFault.{StoreFault}
use Rattle.store.specs.Cells.{Cell, mark_answer, mark_of, cell_at}
use Rattle.store.specs.Faults.{outside}
use Rattle.store.proofs.Insides.{mark_inside}
use Rattle.search.specs.Frees.{Apart, if_free, frees, pool_end, free_count, Chosen, Gathers, Finds}

-- every number of a list lies between two bounds, the upper one left out
abbrev Within : ℕ → ℕ → List ℕ → Type 0
Within a b [] = Unit {0}
Within a b (n ∷ ns) = ((a ≤ n) × (n < b)) × Within a b ns

apart_within : (a b n : ℕ) (ns : List ℕ) → Within a b ns → (n < a) ⊎ (b ≤ n) → Apart n ns
apart_within a b n [] w h = tt
apart_within a b n (m ∷ ms) w (inl h) = ((λ e. omega (arith, w.0.0, w.0.1)), apart_within a b n ms w.1 (inl h))
apart_within a b n (m ∷ ms) w (inr h) = ((λ e. omega (arith, w.0.0, w.0.1)), apart_within a b n ms w.1 (inr h))

apart_append : (n : ℕ) (xs ys : List ℕ) → Apart n xs → Apart n ys → Apart n (xs ++ ys)
apart_append n [] ys p q = q
apart_append n (x ∷ xs) ys p q = (p.0, apart_append n xs ys p.1 q)

within_append : (a b : ℕ) (xs ys : List ℕ) → Within a b xs → Within a b ys → Within a b (xs ++ ys)
within_append a b [] ys p q = q
within_append a b (x ∷ xs) ys p q = (p.0, within_append a b xs ys p.1 q)

within_wide : (a b b' : ℕ) (xs : List ℕ) → b ≤ b' → Within a b xs → Within a b' xs
within_wide a b b' [] h w = tt
within_wide a b b' (x ∷ xs) h w = ((w.0.0, omega (arith, w.0.1)), within_wide a b b' xs h w.1)

one_within : (n : ℕ) (b : Bool) → Within n (suc n) (cond b (n ∷ []) [])
one_within n true = ((omega arith, omega arith), tt)
one_within n false = tt

if_within : (n : ℕ) (r : Result ℕ StoreFault) → Within n (suc n) (if_free n r)
if_within n (Ok m) = one_within n (eqb m 0)
if_within n (Err e) = tt

pub noted : (held after : List ℕ) (n m : ℕ) → m ≡ 0 → after ≡ held ++ (n ∷ []) → after ≡ held ++ if_free n (Ok m)
noted held after n m z e = rw z e

pub unnoted : (held : List ℕ) (n m : ℕ) → (m ≡ 0 → ⊥) → held ≡ held ++ if_free n (Ok m)
unnoted held n m z = rw (ne_eqb m 0 z) (sym (append-nil held))

module _ {K : Type 0} (cs : List (Cell K)) where
  -- two lists apart from each other
  chosen_append : (a b c d : ℕ) (xs ys : List ℕ) → Within a b xs → Within c d ys → (b ≤ c) ⊎ (d ≤ a) → Chosen cs xs → Chosen cs ys → Chosen cs (xs ++ ys)
  chosen_append a b c d [] ys p q h e f = f
  chosen_append a b c d (x ∷ xs) ys p q (inl h) e f =
      (e.0, (apart_append x xs ys e.1.0 (apart_within c d x ys q (inl (omega (arith, p.0.1)))), chosen_append a b c d xs ys p.1 q (inl h) e.1.1 f))
  chosen_append a b c d (x ∷ xs) ys p q (inr h) e f =
      (e.0, (apart_append x xs ys e.1.0 (apart_within c d x ys q (inr (omega (arith, p.0.0)))), chosen_append a b c d xs ys p.1 q (inr h) e.1.1 f))

  if_chosen_by : (n m : ℕ) (b : Bool) → 33 ≤ n → mark_answer cs n ≡ Ok m → eqb m 0 ≡ b → Chosen cs (cond b (n ∷ []) [])
  if_chosen_by n m true h e z = ((h, e ∙ ap Ok (eqb-true m 0 z)), (tt, tt))
  if_chosen_by n m false h e z = tt

  if_chosen : (n : ℕ) (r : Result ℕ StoreFault) → 33 ≤ n → mark_answer cs n ≡ r → Chosen cs (if_free n r)
  if_chosen n (Ok m) h e = if_chosen_by n m (eqb m 0) h e refl
  if_chosen n (Err x) h e = tt

  frees_within : (from k : ℕ) → Within from (from + k) (frees cs from k)
  unfolding frees
  frees_within from zero = tt
  frees_within from (suc k) =
      within_append from (from + suc k) _ _ (within_wide from (from + k) (from + suc k) _ (omega arith) (frees_within from k))
      (within_low _ (within_wide (from + k) (suc (from + k)) (from + suc k) _ (omega arith) (if_within (from + k) (mark_answer cs (from + k)))))
    where
      within_low : (ns : List ℕ) → Within (from + k) (from + suc k) ns → Within from (from + suc k) ns
      within_low [] w = tt
      within_low (n ∷ ns) w = ((omega (arith, w.0.0), w.0.1), within_low ns w.1)

  frees_chosen : (from k : ℕ) → 33 ≤ from → Chosen cs (frees cs from k)
  unfolding frees
  frees_chosen from zero h = tt
  frees_chosen from (suc k) h =
      chosen_append from (from + k) (from + k) (suc (from + k)) _ _ (frees_within from k) (if_within (from + k) (mark_answer cs (from + k))) (inl (omega arith)) (frees_chosen from k h)
      (if_chosen (from + k) (mark_answer cs (from + k)) (omega arith) refl)

  -- a stretch in two parts
  frees_add : (from j k : ℕ) → frees cs from (j + k) ≡ frees cs from j ++ frees cs (from + j) k
  unfolding frees
  frees_add from j zero = ap (frees cs from) (add-zero j) ∙ sym (append-nil _)
  frees_add from j (suc k) =
      ap (frees cs from) (add-suc j k)
      ∙ ap (λ n. frees cs from (j + k) ++ if_free n (mark_answer cs n)) (sym (add_assoc from j k))
      ∙ ap (λ l. l ++ if_free (from + j + k) (mark_answer cs (from + j + k))) (frees_add from j k)
      ∙ append_assoc (frees cs from j) (frees cs (from + j) k) _

  -- one node further
  frees_next : (from n : ℕ) → from ≤ n → frees cs from (n + 1 - from) ≡ frees cs from (n - from) ++ if_free n (mark_answer cs n)
  unfolding frees
  frees_next from n h =
      let e : n + 1 - from ≡ suc (n - from) = omega arith in
      let f : from + (n - from) ≡ n = omega arith in
      ap (frees cs from) e ∙ ap (λ m. frees cs from (n - from) ++ if_free m (mark_answer cs m)) f

  pub next_noted : (from n m : ℕ) (before held after : List ℕ) → from ≤ n → held ≡ before ++ frees cs from (n - from) → Ok m ≡ mark_answer cs n → after ≡ held ++ if_free n (Ok m) →
      after ≡ before ++ frees cs from (n + 1 - from)
  next_noted from n m before held after h e r f =
      f ∙ ap (λ l. l ++ if_free n (Ok m)) e ∙ append_assoc before _ _
      ∙ ap (λ x. before ++ (frees cs from (n - from) ++ if_free n x)) r ∙ ap (λ l. before ++ l) (sym (frees_next from n h))

  -- before the first node
  pub none_yet : (from : ℕ) (before : List ℕ) → before ≡ before ++ frees cs from (from - from)
  unfolding frees
  none_yet from before = let e : from - from ≡ 0 = omega arith in rw e (sym (append-nil before))

  pub gathered : (from n to want : ℕ) (before after : List ℕ) → from ≤ n → n - from ≤ to - from → after ≡ before ++ frees cs from (n - from) → length after ≤ want → (length after < want → to ≤ n) →
      Gathers cs from (to - from) want before after
  gathered from n to want before after h i e l s = record { many = n - from; within = i; found = e; few = l; stopped = λ p. let q = s p in omega arith }

  -- a node of the store has a mark
  pub marked : (n : ℕ) (e : StoreFault) → 1 ≤ n → n ≤ length cs → Err e ≡ mark_answer cs n → ⊥
  unfolding mark_answer
  marked n e h i r =
      let z : n ≢ 0 = omega arith in
      let o : outside n (length cs) ≡ false = rw (ne_eqb n 0 z, le-ltb (length cs) n i) in
      let w : ◌≡◌ {A = Result ℕ StoreFault} (Err e) (Ok (mark_of (cell_at cs n))) = r ∙ mark_inside cs n o in
      let y : ◌≡◌ {A = ℕ} 0 1 = cc in omega arith

  -- once round the pool
  length_frees : (from j k : ℕ) → j ≤ k → length (frees cs from j) ≤ length (frees cs from k)
  length_frees from j k h =
      let e : k ≡ j + (k - j) = omega arith in
      omega (arith, ap (λ n. length (frees cs from n)) e, ap length (frees_add from j (k - j)), length-append (frees cs from j) (frees cs (from + j) (k - j)))

  Round : ℕ → ℕ → Type 0
  Round end start = length (frees cs start (end - start)) + length (frees cs 33 (start - 33)) ≡ length (frees cs 33 (end - 33))

  round_near : (end start : ℕ) → start ≡ 33 → Round end start
  unfolding frees Round
  round_near end start e = rw e (add-zero _)

  round_far : (end start : ℕ) → 33 < start → start < end → Round end start
  unfolding Round
  round_far end start l s =
      let e : end - 33 ≡ (start - 33) + (end - start) = omega arith in
      let f : 33 + (start - 33) ≡ start = omega arith in
      omega (
        arith,
        ap (λ n. length (frees cs 33 n)) e,
        ap length (frees_add 33 (start - 33) (end - start)),
        length-append (frees cs 33 (start - 33)) (frees cs (33 + (start - 33)) (end - start)),
        ap (λ n. length (frees cs n (end - start))) f,
      )

  round_by : (end start : ℕ) → 33 ≤ start → (33 < start → start < end) → (33 < start) ⊎ (start ≤ 33) → Round end start
  round_by end start h i (inl l) = round_far end start l (i l)
  round_by end start h i (inr l) = round_near end start (omega arith)

  many_by : (end start want j k : ℕ) → Round end start → j ≤ end - start → k ≤ start - 33 →
      length (frees cs start j) + length (frees cs 33 k) ≤ want → (length (frees cs start j) < want → j ≡ end - start) →
      (length (frees cs start j) + length (frees cs 33 k) < want → k ≡ start - 33) →
      length (frees cs start j) + length (frees cs 33 k) ≡ min want (length (frees cs 33 (end - 33)))
  unfolding Round
  many_by end start want j k r h i l p q =
      let a = length_frees start j (end - start) h in
      let b = length_frees 33 k (start - 33) i in
      many_both (cases_lt (length (frees cs start j) + length (frees cs 33 k)) want) a b
    where
      many_both : (length (frees cs start j) + length (frees cs 33 k) < want) ⊎ (want ≤ length (frees cs start j) + length (frees cs 33 k)) →
          length (frees cs start j) ≤ length (frees cs start (end - start)) → length (frees cs 33 k) ≤ length (frees cs 33 (start - 33)) →
          length (frees cs start j) + length (frees cs 33 k) ≡ min want (length (frees cs 33 (end - 33)))
      many_both (inl s) a b =
          let e = p (omega arith) in
          let f = q s in
          omega (arith, ap (λ n. length (frees cs start n)) e, ap (λ n. length (frees cs 33 n)) f)
      many_both (inr s) a b = omega arith

  pub found_all : (end start want : ℕ) (ns ms : List ℕ) → end ≡ pool_end cs + 1 → 33 ≤ start → (33 < start → start < end) →
      Gathers cs start (end - start) want [] ms → Gathers cs 33 (start - 33) want ms ns → Finds cs want ns
  unfolding free_count
  found_all end start want ns ms e h i p q =
      let f : ms ≡ frees cs start p.many = p.found in
      let g : ns ≡ frees cs start p.many ++ frees cs 33 q.many = q.found ∙ ap (λ l. l ++ frees cs 33 q.many) f in
      let z : end - 33 ≡ pool_end cs - 32 = omega arith in
      let a = ap length f in
      let b : length ns ≡ length (frees cs start p.many) + length (frees cs 33 q.many) = ap length g ∙ length-append (frees cs start p.many) (frees cs 33 q.many) in
      record {
        chosen = subst (Chosen cs) (sym g)
            (chosen_append start (start + p.many) 33 (33 + q.many) _ _ (frees_within start p.many) (frees_within 33 q.many) (inr (omega (arith, q.within)))
            (frees_chosen start p.many h) (frees_chosen 33 q.many (omega arith)));
        many = b ∙ many_by end start want p.many q.many (round_by end start h i (cases_lt 33 start)) p.within q.within (omega (arith, q.few))
            (λ l. p.stopped (omega arith)) (λ l. q.stopped (omega arith)) ∙ ap (λ n. min want (length (frees cs 33 n))) z;
      }
