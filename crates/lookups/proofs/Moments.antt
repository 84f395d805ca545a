-- Moments of a run, from one call to the next.
use Rattle.std.proofs.Common.{◌≡◌, ℕ, suc, ◌-◌, ◌≤◌, List, [], ◌∷◌, length, drop, Option, sym, refl, ap, ◌∙◌, subst, arith}
use Rattle.store.specs.declared.node.Region.{Region}
use Rattle.trees.specs.Regions.{gives}
use Rattle.runs.specs.Calls.{Kind, regions}
use Rattle.runs.specs.Histories.{Event, History, at, set_of}
use Rattle.runs.specs.States.{State, Cells, InTree}
use Rattle.runs.specs.Runs.{Turn, history, state, state_at, LeftAfter}
use Rattle.lookups.specs.Theorems.{Given}

drop_later : {A : Type 0} (x : A) (xs : List A) (m : ℕ) → m ≤ length xs → drop (suc (length xs) - m) (x ∷ xs) ≡ drop (length xs - m) xs
drop_later x xs m h = let e : suc (length xs) - m ≡ suc (length xs - m) = omega arith in ap (λ (j : ℕ). drop j (x ∷ xs)) e

drop_none : {A : Type 0} (xs : List A) → drop (length xs - length xs) xs ≡ xs
drop_none xs = let e : length xs - length xs ≡ 0 = omega arith in ap (λ (j : ℕ). drop j xs) e

module _ {K F : Type 0} where
  pub history_length : (ts : List (Turn (Cells K) K F)) → length (history ts) ≡ length ts
  history_length [] = refl
  history_length (t ∷ ts) = ap suc (history_length ts)

  pub at_now : (h : History K F) → at (length h) h ≡ h
  at_now h = drop_none h

  pub at_later : (e : Event K F) (h : History K F) (m : ℕ) → m ≤ length h → at m (e ∷ h) ≡ at m h
  at_later e h m i = drop_later e h m i

  module _ (z : State (Cells K)) (t : Turn (Cells K) K F) (ts : List (Turn (Cells K) K F)) where
    pub state_later : (m : ℕ) → m ≤ length ts → state_at z (t ∷ ts) m ≡ state_at z ts m
    state_later m i = ap (state z) (drop_later t ts m i)

    pub state_now : state_at z (t ∷ ts) (suc (length ts)) ≡ t.after
    state_now = ap (state z) (drop_none (t ∷ ts))

    pub left_later : (i q : ℕ) → LeftAfter z ts i q → LeftAfter z (t ∷ ts) i q
    left_later i q l =
        let w = l.within in
        record {
          within = omega arith;
          was_in = subst (λ (y : State (Cells K)). InTree y q) (sym (state_later i (omega arith))) l.was_in;
          is_out = λ k. l.is_out (subst (λ (y : State (Cells K)). InTree y q) (state_later (suc i) (omega arith)) k);
        }

    pub left_now : (q : ℕ) → InTree (state z ts) q → (InTree t.after q → ⊥) → LeftAfter z (t ∷ ts) (length ts) q
    left_now q i o = record {
      within = omega arith;
      was_in = subst (λ (y : State (Cells K)). InTree y q) (sym (state_later (length ts) (omega arith) ∙ ap (state z) (drop_none ts))) i;
      is_out = λ k. o (subst (λ (y : State (Cells K)). InTree y q) state_now k);
    }

-- the node q left the tree in a call after the moment `since`
pub record LeftSince {K F : Type 0} (z : State (Cells K)) (ts : List (Turn (Cells K) K F)) (since q : ℕ) : Type 0 where
  pub moment : ℕ
  pub not_before : since ≤ moment
  pub left : LeftAfter z ts moment q

pub still_left :
    {K F : Type 0} (z : State (Cells K)) (t : Turn (Cells K) K F) (ts : List (Turn (Cells K) K F)) (since q : ℕ) →
    LeftSince z ts since q → LeftSince z (t ∷ ts) since q
still_left z t ts since q l = record { moment = l.moment; not_before = l.not_before; left = left_later z t ts l.moment q l.left }

module _ {K F : Type 0} (kd : Kind K F) where
  -- what the region set gave for k at a moment since
  abbrev pub SetGave : History K F → ℕ → K → Option (Region K) → Type 0
  SetGave h since k = Given (λ m. gives (regions kd) (set_of kd (at m h)) k) since (length h)

  pub gave_later : (e : Event K F) (h : History K F) (since : ℕ) (k : K) (o : Option (Region K)) → SetGave h since k o → SetGave (e ∷ h) since k o
  gave_later e h since k o g =
      let i = g.not_after in
      record {
        moment = g.moment;
        not_before = g.not_before;
        not_after = omega arith;
        given_then = ap (λ (j : History K F). gives (regions kd) (set_of kd j) k) (at_later e h g.moment i) ∙ g.given_then;
      }

  pub gives_now : (h : History K F) (since : ℕ) (k : K) → since ≤ length h → SetGave h since k (gives (regions kd) (set_of kd h) k)
  gives_now h since k i = record {
    moment = length h;
    not_before = i;
    not_after = omega arith;
    given_then = ap (λ (j : History K F). gives (regions kd) (set_of kd j) k) (at_now h);
  }
