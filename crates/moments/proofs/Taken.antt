-- What an accepted edit is: in its turn, with a region set that takes it, and with room for what it adds.
use Rattle.std.proofs.Common.{◌≡◌, ℕ, zero, suc, ◌+◌, ◌-◌, ◌<◌, ◌≤◌, max, Bool, true, false, cond, T, List, [], ◌∷◌, ◌++◌, length, Some, None, Option, refl, ap, subst, arith, length-append, Err}
use native.Mathlib.Decide.{dec_le}
use Rattle.store.specs.Nodes.{region}
use Rattle.store.specs.declared.fault.StoreFault.{StoreFault}
use Rattle.store.specs.declared.node.Region.{Region}
use Rattle.trees.specs.Regions.{Ranges, below, holds, set_put, set_replace}
use Rattle.trees.specs.Trees.{left, right, Turn, to_left, here, to_right, at_turn, Tree, leaf, node, height}
use Rattle.trees.specs.Edits.{Frame, frame, Place, place, descend, advanced, Edit, set_after}
use Rattle.trees.specs.Steps.{Accepted, InTurn}
use Rattle.runs.specs.declared.call.Argument.{Argument}
use Rattle.runs.specs.declared.call.Argument.TheVariants.{Low, High, Key}
use Rattle.requests.specs.declared.call.Call.{Call}
use Rattle.requests.specs.declared.call.Call.TheVariants.{Put, Drop, Split, Advance, Open, Step, Close, Counts}
use Rattle.runs.specs.declared.call.Doing.{Doing}
use Rattle.runs.specs.declared.call.Refusal.{Refusal}
use Rattle.runs.specs.declared.call.Refusal.TheVariants.{IllFormed, NotBelow, UnderWay, Overlaps, SameAsLow, Full, StoreRefused}
use Rattle.runs.specs.Calls.{Kind, regions, lower_part, upper_part, edit_of, number_of, accepted, Outcome}
use Rattle.runs.specs.Histories.{set_of, to_do}
use Rattle.runs.specs.States.{State, Cells, pool}
use Rattle.runs.specs.Table.{Scene, begins_edit, adds_region, keys_of, or_fault, first_ill, Fits, size, no_session, has_lookup, no_lookup, ill_formed, not_below, under_way, at_rest, overlapping, no_region, same_as_low, full, few_free}
use Rattle.runs.specs.Effects.{Exact}

-- HOW LONG THE SET AND THE PATH BECOME

module _ {K R : Type 0} (g : Ranges K R) where
  put_length : (x : R) (xs : List R) → length (set_put g x xs) ≡ suc (length xs)
  put_length x [] = refl
  put_length x (y ∷ ys) = by_test (below g (g.low x) (g.low y)) (put_length x ys)
    where
      by_test : (b : Bool) → length (set_put g x ys) ≡ suc (length ys) → length (cond b (x ∷ (y ∷ ys)) (y ∷ set_put g x ys)) ≡ suc (suc (length ys))
      by_test true e = refl
      by_test false e = ap suc e

  replace_length :
      (k : K) (f : R → List R) (n : ℕ) → ((x : R) → length (f x) ≤ suc n) → (xs : List R) → length (set_replace g k f xs) ≤ length xs + n
  replace_length k f n h [] = omega arith
  replace_length k f n h (x ∷ xs) = by_test (holds g x k) (replace_length k f n h xs)
    where
      by_test : (b : Bool) → length (set_replace g k f xs) ≤ length xs + n → length (cond b (f x ++ xs) (x ∷ set_replace g k f xs)) ≤ suc (length xs) + n
      by_test true i = let a = length-append (f x) xs in let b = h x in omega arith
      by_test false i = omega arith

module _ {L R : Type 0} (turn : R → Turn) where
  pub descend_length : (fs : List (Frame L R)) (t : Tree L R) → length (descend turn fs t).above ≤ length fs + height t
  descend_length fs leaf = omega arith
  descend_length fs (node o l x r) = by_turn (turn x) (descend_length (frame left o x r ∷ fs) l) (descend_length (frame right o x l ∷ fs) r)
    where
      by_turn :
          (v : Turn) → length (descend turn (frame left o x r ∷ fs) l).above ≤ suc (length fs) + height l →
          length (descend turn (frame right o x l ∷ fs) r).above ≤ suc (length fs) + height r →
          length (at_turn v (descend turn (frame left o x r ∷ fs) l) (place fs (node o l x r)) (descend turn (frame right o x l ∷ fs) r)).above
          ≤ length fs + suc (max (height l) (height r))
      by_turn to_left a b = omega arith
      by_turn here a b = omega arith
      by_turn to_right a b = omega arith

pub advanced_length : {R : Type 0} (fs : List (Frame ℕ R)) (t : Tree ℕ R) → length (advanced fs t).above ≤ length fs
advanced_length [] t = omega arith
advanced_length (frame s n x u ∷ fs) t = omega arith

-- WHAT NO LINE OF THE TABLE FITS

pub or_none : {F : Type 0} (a : Argument) (o : Option F) (rest : Option (Argument × F)) → or_fault a o rest ≡ None → (o ≡ None) × (rest ≡ None)
or_none a None rest e = (refl, e)
or_none a (Some f) rest e = absurd (let z : ◌≡◌ {A = ℕ} 0 1 = cc in let b : ⊥ = omega arith in b)

is_true : (b : Bool) → (b ≡ false → ⊥) → T b
is_true true h = tt
is_true false h = absurd (h refl)

is_false : (b : Bool) → (T b → ⊥) → b ≡ false
is_false true h = absurd (h tt)
is_false false h = refl

module _ {K F : Type 0} (kd : Kind K F) (x : Scene K F) where
  abbrev set : List (Region K)
  set = set_of kd x.past

  -- an edit that is in its turn and that the set takes, and the room after it
  pub record Taken (most : ℕ) (e : Edit K (Region K)) : Type 0 where
    pub in_turn : InTurn (regions kd) e x.place
    pub taken : Accepted (regions kd) e set
    pub room : length (set_after (regions kd) e set) ≤ most

  module _ (c : Call K) (none : (r : Refusal F) → Fits kd x c r → ⊥) where
    pub none_ill : first_ill kd.fault (keys_of c) ≡ None
    none_ill = by_ill (first_ill kd.fault (keys_of c)) refl
      where
        by_ill : (o : Option (Argument × F)) → first_ill kd.fault (keys_of c) ≡ o → o ≡ None
        by_ill None e = refl
        by_ill (Some i) e = absurd (none (IllFormed i.0 i.1) (ill_formed c i.0 i.1 e))

    rest : (to_do x.past ≡ 0 → x.place.above ≡ []) → T (begins_edit c) → x.place.above ≡ []
    rest still b = by_many (to_do x.past) refl
      where
        by_many : (n : ℕ) → to_do x.past ≡ n → x.place.above ≡ []
        by_many zero e = still e
        by_many (suc n) e = absurd (none UnderWay (under_way c b (omega arith)))

    not_full : T (adds_region c) → length set ≤ pool x.state.memory - 96 → length set < pool x.state.memory - 96
    not_full b h = by_dec (dec_le (suc (length set)) (pool x.state.memory - 96))
      where
        by_dec : Dec (length set < pool x.state.memory - 96) → length set < pool x.state.memory - 96
        by_dec (yes l) = l
        by_dec (no l) = absurd (none Full (full c b (omega arith)))

  abbrev TakenIf : ℕ → Option (Edit K (Region K)) → Type 0
  TakenIf most None = Unit {0}
  TakenIf most (Some e) = Taken most e

  module _ (still : to_do x.past ≡ 0 → x.place.above ≡ []) (room : length set ≤ pool x.state.memory - 96) where
    taken_call : (c : Call K) → ((r : Refusal F) → Fits kd x c r → ⊥) → TakenIf (pool x.state.memory - 96) (edit_of c)
    taken_call (Put low high rows) none =
        let ill = none_ill (Put low high rows) none in
        let l = or_none Low (kd.fault low) _ ill in
        let h = or_none High (kd.fault high) None l.1 in
        record {
          in_turn = rest (Put low high rows) none still tt;
          taken = (
            record { low_formed = l.0; high_formed = h.0; rises = is_true _ (λ e. none NotBelow (not_below low high rows e)) },
            is_false _ (λ t. none Overlaps (overlapping low high rows t)),
          );
          room =
              let a = put_length (regions kd) (region low high rows) set in let b = not_full (Put low high rows) none tt room in omega arith;
        }
    taken_call (Drop k) none = record {
      in_turn = rest (Drop k) none still tt;
      taken = (or_none Key (kd.fault k) None (none_ill (Drop k) none)).0;
      room = let a = replace_length (regions kd) k (λ x. []) 0 (λ x. omega arith) set in omega arith;
    }
    taken_call (Split b m n) none = record {
      in_turn = rest (Split b m n) none still tt;
      taken = (
        (or_none Key (kd.fault b) None (none_ill (Split b m n) none)).0,
        record { lower_low = λ x. refl; lower_high = λ x. refl; upper_low = λ x. refl; upper_high = λ x. refl },
        λ y g s. none SameAsLow (same_as_low b m n y g s),
      );
      room =
          let a = replace_length (regions kd) b (λ y. lower_part b m y ∷ (upper_part b n y ∷ [])) 1 (λ x. omega arith) set in let d = not_full (Split b m n) none tt room in omega arith;
    }
    taken_call Advance none = record { in_turn = tt; taken = tt; room = room }
    taken_call (Open s k) none = tt
    taken_call (Step s) none = tt
    taken_call (Close s) none = tt
    taken_call Counts none = tt

    pub taken_edit :
        (c : Call K) (e : Edit K (Region K)) → edit_of c ≡ Some e → ((r : Refusal F) → Fits kd x c r → ⊥) → Taken (pool x.state.memory - 96) e
    taken_edit c e d none = subst (TakenIf (pool x.state.memory - 96)) d (taken_call c none)

pub none_fits :
    {K F : Type 0} (kd : Kind K F) (x : Scene K F) (c : Call K) (a : Outcome K F) (y : State (Cells K)) (p : Place ℕ (Region K)) →
    Exact kd x c a y p → accepted a ≡ true → (r : Refusal F) → Fits kd x c r → ⊥
none_fits kd x c a y p ex ok r f = let e = ex.refused_if r f in let z : ◌≡◌ {A = ℕ} 0 1 = cc in omega arith

-- line 14 never fits
no_line_14 : {K F : Type 0} (kd : Kind K F) (x : Scene K F) (c : Call K) (r : Refusal F) → Fits kd x c r → number_of r ≡ 14 → ⊥
no_line_14 kd x c r (size _ h) e = omega arith
no_line_14 kd x c r (no_session _ s d h) e = omega arith
no_line_14 kd x c r (has_lookup s k l h) e = omega arith
no_line_14 kd x c r (no_lookup _ s d h) e = omega arith
no_line_14 kd x c r (ill_formed _ a f d) e = omega arith
no_line_14 kd x c r (not_below low high rows h) e = omega arith
no_line_14 kd x c r (under_way _ d h) e = omega arith
no_line_14 kd x c r (at_rest h) e = omega arith
no_line_14 kd x c r (overlapping low high rows h) e = omega arith
no_line_14 kd x c r (no_region _ k d h) e = omega arith
no_line_14 kd x c r (same_as_low b m n y g h) e = omega arith
no_line_14 kd x c r (full _ d h) e = omega arith
no_line_14 kd x c r (few_free _ h) e = omega arith

pub never_14 :
    {K F : Type 0} (kd : Kind K F) (x : Scene K F) (c : Call K) (a : Outcome K F) (y : State (Cells K)) (p : Place ℕ (Region K)) →
    Exact kd x c a y p → (d : Doing) (f : StoreFault) → a ≡ Err (StoreRefused d f) → ⊥
never_14 kd x c a y p ex d f e = no_line_14 kd x c (StoreRefused d f) (ex.refused_by (StoreRefused d f) e).fits refl
