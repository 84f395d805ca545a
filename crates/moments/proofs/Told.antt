-- What follows from a history: the lookups that are open, and the bits of their sessions.
use Rattle.std.proofs.Common.{◌≡◌, ℕ, zero, suc, ◌+◌, ◌^◌, ◌<◌, ◌≤◌, Bool, true, false, cond, eqb, ◌⊎◌, List, [], ◌∷◌, length, Some, None, Option, sym, refl, ap, ◌∙◌, subst, inl, inr, arith, pow_pos, below_more, le-leb}
use native.Mathlib.Decide.{dec_le}
use Rattle.requests.specs.declared.call.Call.{Call}
use Rattle.requests.specs.declared.call.Call.TheVariants.{Put, Drop, Split, Advance, Open, Step, Close, Counts}
use Rattle.runs.specs.Calls.{accepted, Outcome}
use Rattle.runs.specs.Histories.{History, Lookup, lookup, lookup_after, with_step, begun_by, open_since, seat_key, seat_after, bits}
use Rattle.runs.specs.Runs.{Turn, history}
use Rattle.moments.specs.Invariant.{has_one}

pub history_length : {M K F : Type 0} (ts : List (Turn M K F)) → length (history ts) ≡ length ts
history_length [] = refl
history_length (t ∷ ts) = ap suc (history_length ts)

-- what holds of both arms of a test holds
both : {A : Type 0} (P : A → Type 0) (b : Bool) (x y : A) → P x → P y → P (cond b x y)
both P true x y p q = p
both P false x y p q = q

-- WHAT EVERY OPEN LOOKUP IS: opened at a moment that has been, for the key that is in its session's seat
module _ {K : Type 0} where
  abbrev Begun : ℕ → K → Option (Lookup K) → Type 0
  Begun m k None = Unit {0}
  Begun m k (Some l) = (l.since ≤ m) × (l.key ≡ k)

  later : (m : ℕ) (k : K) (o : Option (Lookup K)) → Begun m k o → Begun (suc m) k o
  later m k None b = tt
  later m k (Some l) b = let h = b.0 in (omega arith, b.1)

  opened : (m : ℕ) (b : Bool) (k was : K) (o : Option (Lookup K)) → Begun m was o →
      Begun (suc m) (cond b k was) (cond b (Some (record { key = k; since = suc m; steps = 0; first = None })) o)
  opened m true k was o h = (omega arith, refl)
  opened m false k was o h = later m was o h

module _ {K F : Type 0} where
  stepped : (m : ℕ) (k : K) (a : Outcome K F) (o : Option (Lookup K)) → Begun m k o → Begun (suc m) k (with_step (suc m) a o)
  stepped m k a None b = tt
  stepped m k a (Some l) b = let h = b.0 in (omega arith, b.1)

  called :
      (s m : ℕ) (k : K) (c : Call K) (a : Outcome K F) (o : Option (Lookup K)) → Begun m k o →
      Begun (suc m) (seat_after s c k) (lookup_after s (suc m) c a o)
  called s m k (Put low high rows) a o h = later m k o h
  called s m k (Drop j) a o h = later m k o h
  called s m k (Split b i j) a o h = later m k o h
  called s m k Advance a o h = later m k o h
  called s m k (Open j i) a o h = opened m (eqb j s) i k o h
  called s m k (Step j) a o h = both (Begun (suc m) k) (eqb j s) (with_step (suc m) a o) o (stepped m k a o h) (later m k o h)
  called s m k (Close j) a o h = both (Begun (suc m) k) (eqb j s) None o tt (later m k o h)
  called s m k Counts a o h = later m k o h

  begun : (filler : K) (s : ℕ) (h : History K F) → Begun (length h) (seat_key filler s h) (lookup s h)
  begun filler s [] = tt
  begun filler s (e ∷ h) = by_answer (accepted e.answer) (begun filler s h)
    where
      by_answer : (b : Bool) → Begun (length h) (seat_key filler s h) (lookup s h) →
          Begun (suc (length h)) (cond b (seat_after s e.call (seat_key filler s h)) (seat_key filler s h))
          (cond b (lookup_after s (suc (length h)) e.call e.answer (lookup s h)) (lookup s h))
      by_answer true i = called s (length h) (seat_key filler s h) e.call e.answer (lookup s h) i
      by_answer false i = later (length h) (seat_key filler s h) (lookup s h) i

  pub lookup_begun : (filler : K) (s : ℕ) (h : History K F) (l : Lookup K) → lookup s h ≡ Some l → (l.since ≤ length h) × (l.key ≡ seat_key filler s h)
  lookup_begun filler s h l e = subst (Begun (length h) (seat_key filler s h)) e (begun filler s h)

  -- at the present moment a lookup is open just if there is one
  pub open_now : (filler : K) (s : ℕ) (h : History K F) → open_since h (length h) s ≡ has_one (lookup s h)
  open_now filler s h = by_lookup (lookup s h) (begun filler s h)
    where
      by_lookup : (o : Option (Lookup K)) → Begun (length h) (seat_key filler s h) o → begun_by (length h) o ≡ has_one o
      by_lookup None b = refl
      by_lookup (Some l) b = le-leb l.since (length h) b.0

-- BITS

pub bits_same : (f g : ℕ → Bool) (n : ℕ) → ((s : ℕ) → s < n → f s ≡ g s) → bits f n ≡ bits g n
bits_same f g zero h = refl
bits_same f g (suc n) h =
    let a = bits_same f g n (λ s l. h s (omega arith)) in
    let b : ◌≡◌ {A = ℕ} (cond (f n) (2 ^ n) 0) (cond (g n) (2 ^ n) 0) = ap (λ (c : Bool). cond c (2 ^ n) 0) (h n (omega arith)) in
    omega arith

-- the sessions that are picked: none, or one that is
pub bits_pick : (f : ℕ → Bool) (n : ℕ) → ((s : ℕ) → s < n → f s ≡ false) ⊎ ((s : ℕ) × (s < n) × (f s ≡ true))
bits_pick f zero = inl (λ s h. absurd (let z : ⊥ = omega arith in z))
bits_pick f (suc n) = by_last (f n) refl (bits_pick f n)
  where
    by_last :
        (b : Bool) → f n ≡ b → ((s : ℕ) → s < n → f s ≡ false) ⊎ ((s : ℕ) × (s < n) × (f s ≡ true)) →
        ((s : ℕ) → s < suc n → f s ≡ false) ⊎ ((s : ℕ) × (s < suc n) × (f s ≡ true))
    by_last true e i = inr (n, omega arith, e)
    by_last false e (inr i) = let h = i.1 in inr (i.0, omega arith, i.2)
    by_last false e (inl i) = inl (λ s l. below_more (λ (j : ℕ). f j ≡ false) n i e s (omega arith))

pub bits_none : (f : ℕ → Bool) (n : ℕ) → ((s : ℕ) → s < n → f s ≡ false) → bits f n ≡ 0
bits_none f zero h = refl
bits_none f (suc n) h =
    let a = bits_none f n (λ s l. h s (omega arith)) in
    let b : ◌≡◌ {A = ℕ} (cond (f n) (2 ^ n) 0) 0 = ap (λ (c : Bool). cond c (2 ^ n) 0) (h n (omega arith)) in
    omega arith

pub bits_some : (f : ℕ → Bool) (n s : ℕ) → s < n → f s ≡ true → 1 ≤ bits f n
bits_some f zero s h e = absurd (let z : ⊥ = omega arith in z)
bits_some f (suc n) s h e = by_last (dec_le (suc s) n) (bits_some f n s)
  where
    by_last : Dec (s < n) → (s < n → f s ≡ true → 1 ≤ bits f n) → 1 ≤ bits f n + cond (f n) (2 ^ n) 0
    by_last (yes l) i = let a = i l e in omega arith
    by_last (no l) i =
        let d : s ≡ n = omega arith in
        let b : ◌≡◌ {A = ℕ} (cond (f n) (2 ^ n) 0) (2 ^ n) = ap (λ (c : Bool). cond c (2 ^ n) 0) (sym (ap f d) ∙ e) in
        let p = pow_pos n in
        omega arith
