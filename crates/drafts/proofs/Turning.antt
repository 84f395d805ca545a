-- One step after another: how what the draft came to follows what the definitions say.
use Rattle.std.proofs.Common.{◌≡◌, ℕ, ◌+◌, ◌*◌, ◌<◌, ◌≤◌, Bool, true, false, ltb, List, Some, None, Ok, Err, Option, Result, sym, refl, ap, ◌∙◌, arith}
use Rattle.std.proofs.lemmas.Bool.{lt-ltb, le-ltb}
use Rattle.store.specs.declared.fault.StoreFault.{StoreFault}
use Rattle.store.specs.Cells.{Cell}
use Rattle.drafts.specs.declared.link.Link.{Link}
use Rattle.drafts.specs.declared.link.Lean.{Lean}
use Rattle.drafts.specs.declared.link.Lean.TheVariants.{Right, Left}
use Rattle.store.specs.declared.node.Region.{Region}
use Rattle.drafts.specs.declared.link.Branch.{Branch}
use Rattle.drafts.specs.declared.link.Side.{Side}
use Rattle.drafts.specs.declared.draft.Draft.{Draft}
use Rattle.drafts.specs.Grown.{Grown, Seen, Parts, Built, bind, near, far, seen, both_seen, without, joined_by, single, lifted, raised, double, double_by, turned, turned_by, turned_of, turned_over, heavy_side, balanced, balanced_by}
use Rattle.drafts.specs.Drafts.{tree_of, Fine, gone_of, Good, seen_of, side_weight, parts_of, other_side, link_on, Makes, Joins, Takes}
use Rattle.drafts.proofs.Seeing.{grew_none, grew_wide, grew_on, seen_same, weight_seen}

pub bind_at : {A B E : Type 0} (m : Result A E) (a : A) (k : A → Result B E) → Ok a ≡ m → k a ≡ bind m k
bind_at m a k e = rw (← e)

pub bind_stop : {A B E : Type 0} (m : Result A E) (e : E) (k : A → Result B E) → Err e ≡ m → Err e ≡ bind m k
bind_stop m e k h = rw (← h)

both : {A B C : Type 0} (f : A → B → C) {a a' : A} {b b' : B} → a ≡ a' → b ≡ b' → f a b ≡ f a' b'
both f {a} {a'} {b} {b'} p q = ap (λ x. f x b) p ∙ ap (λ y. f a' y) q

-- one step for two that may be refused
pub both_bound : {A B C E : Type 0} (x : Result A E) (y : Result B E) (f : A → B → Result C E) →
    bind {A = A × B} (bind x (λ a. bind y (λ b. Ok (a, b)))) (λ p. f p.0 p.1) ≡ bind x (λ a. bind y (λ b. f a b))
both_bound (Err e) y f = refl
both_bound (Ok a) (Err e) f = refl
both_bound (Ok a) (Ok b) f = refl

module _ {K : Type 0} where
  pub link_fine : (d : Draft K) (s : Lean) (b : Branch K) (l : Link) → l ≡ link_on s b → Fine d b.left → Fine d b.right → Fine d l
  link_fine d Right b l e p q = rw e q
  link_fine d Left b l e p q = rw e p

  -- the trees on the two sides of a top
  far_tree : (d : Draft K) (s : Lean) (b : Branch K) (l : Link) → l ≡ link_on s b → tree_of d l ≡ far s (parts_of d b)
  unfolding far
  far_tree d Right b l e = rw e
  far_tree d Left b l e = rw e

  near_tree : (d : Draft K) (s o : Lean) (b : Branch K) (l : Link) → o ≡ other_side s → l ≡ link_on o b → tree_of d l ≡ near s (parts_of d b)
  unfolding near
  near_tree d Right o b l e f = rw (f, e)
  near_tree d Left o b l e f = rw (f, e)

  pub sides_seen : (cs : List (Cell K)) (d : Draft K) (s o : Lean) (b : Branch K) (l l' : Link) → o ≡ other_side s → l ≡ link_on o b → l' ≡ link_on s b →
      both_seen cs (tree_of d l) (tree_of d l') ≡ both_seen cs (near s (parts_of d b)) (far s (parts_of d b))
  sides_seen cs d s o b l l' e f g = both (both_seen cs) (near_tree d s o b l e f) (far_tree d s b l' g)

  -- new nodes, whose making cannot be refused
  pub joins_as : {m : ℕ} {d d' : Draft K} {s : Side K} {t t' : Seen K} → Joins m d d' s t → t ≡ t' → Joins m d d' s t'
  joins_as q e = record { grew = q.grew; good = q.good; is = q.is ∙ e; gone = q.gone }

  pub joins_then : {m m' : ℕ} {d d₁ d₂ : Draft K} {a b : Side K} {t u : Seen K} → Joins m d d₁ a t → Joins m' d₁ d₂ b u → Joins (m + m') d d₂ b u
  joins_then p q = record { grew = grew_wide _ 0 (omega arith) (omega arith) (grew_on p.grew q.grew); good = q.good; is = q.is; gone = q.gone ∙ p.gone }

  pub once_done : (s : Lean) (x top : Region K) (d d₁ d₂ : Draft K) (light inner outer low r : Side K) → Good d outer →
      Joins 1 d d₁ low (joined_by s x (seen_of d light) (seen_of d inner)) → Joins 1 d₁ d₂ r (joined_by s top (seen_of d₁ low) (seen_of d₁ outer)) →
      Joins 2 d d₂ r (single s x (seen_of d light) top (seen_of d inner) (seen_of d outer))
  unfolding single
  once_done s x top d d₁ d₂ light inner outer low r f p q =
      joins_then p (joins_as q (both (λ t u. joined_by s top t u) p.is (seen_same outer p.grew f)))

  pub lift_done : (s : Lean) (x top mid : Region K) (d d₁ d₂ d₃ : Draft K) (light inner other outer low high r : Side K) → Good d other → Good d outer →
      Joins 1 d d₁ low (joined_by s x (seen_of d light) (seen_of d inner)) → Joins 1 d₁ d₂ high (joined_by s top (seen_of d₁ other) (seen_of d₁ outer)) →
      Joins 1 d₂ d₃ r (joined_by s mid (seen_of d₂ low) (seen_of d₂ high)) →
      Joins 3 d d₃ r (lifted s x (seen_of d light) top mid (seen_of d inner) (seen_of d other) (seen_of d outer))
  unfolding lifted
  lift_done s x top mid d d₁ d₂ d₃ light inner other outer low high r f h p q w =
      joins_then p (joins_then q (joins_as w
      (both (λ t u. joined_by s mid t u) (seen_same low q.grew p.good ∙ p.is)
      (q.is ∙ both (λ t u. joined_by s top t u) (seen_same other p.grew f) (seen_same outer p.grew h)))))

  -- what may be refused
  pub makes_wide : {m j : ℕ} {d d' : Draft K} {r : Result (Side K) StoreFault} {told : Result (Built K) StoreFault} (m' j' : ℕ) → m ≤ m' → j ≤ j' → Makes m j d d' r told → Makes m' j' d d' r told
  makes_wide m' j' h h' q = record { grew = grew_wide m' j' h h' q.grew; good = q.good; is = q.is }

  pub makes_as : {m j : ℕ} {d d' : Draft K} {r : Result (Side K) StoreFault} {t t' : Result (Built K) StoreFault} → Makes m j d d' r t → t ≡ t' → Makes m j d d' r t'
  makes_as q e = record { grew = q.grew; good = q.good; is = q.is ∙ e }

  pub makes_joined : {m : ℕ} {d d' : Draft K} {s : Side K} {t : Seen K} → Joins m d d' s t → Makes m 0 d d' (Ok s) (Ok (record { top = t; gone = gone_of d }))
  makes_joined p = record { grew = p.grew; good = p.good; is = both (λ t g. Ok (record { top = t; gone = g })) p.is p.gone }

  pub makes_read : {A : Type 0} {m j : ℕ} {d d' : Draft K} {r : Result (Side K) StoreFault} (w : Result A StoreFault) (a : A) (k : A → Result (Built K) StoreFault) →
      Ok a ≡ w → Makes m j d d' r (k a) → Makes m j d d' r (bind w k)
  makes_read w a k e q = makes_as q (bind_at w a k e)

  pub makes_unread : {A : Type 0} (d : Draft K) (r : Result (Side K) StoreFault) (e y : StoreFault) (w : Result A StoreFault) (k : A → Result (Built K) StoreFault) →
      r ≡ Err y → y ≡ e → Err e ≡ w → Makes 0 0 d d r (bind w k)
  makes_unread d r e y w k p q h = record { grew = grew_none d; good = rw p tt; is = rw (p, q) (bind_stop w e k h) }

  -- two sides that were seen, and the exit where one was not
  pub makes_seen : {m j : ℕ} {d d' : Draft K} {r : Result (Side K) StoreFault} (cs : List (Cell K)) (l l' : Grown K) (a b : Seen K) (k : Seen K → Seen K → Result (Built K) StoreFault) →
      Ok (a, b) ≡ both_seen cs l l' → Makes m j d d' r (k a b) → Makes m j d d' r (bind (seen cs l) (λ a. bind (seen cs l') (λ b. k a b)))
  makes_seen cs l l' a b k e q = makes_as (makes_read (both_seen cs l l') (a, b) (λ p. k p.0 p.1) e q) (both_bound (seen cs l) (seen cs l') k)

  pub makes_unseen : (d : Draft K) (r : Result (Side K) StoreFault) (e y : StoreFault) (cs : List (Cell K)) (l l' : Grown K) (k : Seen K → Seen K → Result (Built K) StoreFault) →
      r ≡ Err y → y ≡ e → Err e ≡ both_seen cs l l' → Makes 0 0 d d r (bind (seen cs l) (λ a. bind (seen cs l') (λ b. k a b)))
  makes_unseen d r e y cs l l' k p q h = makes_as (makes_unread d r e y (both_seen cs l l') (λ p. k p.0 p.1) p q h) (both_bound (seen cs l) (seen cs l') k)

  pub raise_stop : (cs : List (Cell K)) (s : Lean) (x top : Region K) (d : Draft K) (light outer : Seen K) (mid : Parts K) (e y : StoreFault) (r : Result (Side K) StoreFault) →
      Err e ≡ both_seen cs (near s mid) (far s mid) → r ≡ Err y → y ≡ e → Makes 3 0 d d r (raised cs (gone_of d) s x light top mid outer)
  unfolding raised
  raise_stop cs s x top d light outer mid e y r h p q = makes_wide 3 0 (omega arith) (omega arith) (makes_unseen d r e y cs (near s mid) (far s mid) _ p q h)

  pub raise_done : (cs : List (Cell K)) (s : Lean) (x top : Region K) (d d' : Draft K) (light outer inner other : Seen K) (mid : Parts K) (t : Side K) →
      Ok (inner, other) ≡ both_seen cs (near s mid) (far s mid) → Joins 3 d d' t (lifted s x light top mid.region inner other outer) →
      Makes 3 0 d d' (Ok t) (raised cs (gone_of d) s x light top mid outer)
  unfolding raised
  raise_done cs s x top d d' light outer inner other mid t h q = makes_seen cs (near s mid) (far s mid) inner other _ h (makes_joined q)

  -- after a top was taken apart
  pub twice_none : (cs : List (Cell K)) (s : Lean) (x top : Region K) (d d₁ d₂ : Draft K) (light inner outer t : Side K) → Good d light → Good d inner → Good d outer →
      Takes d d₁ None (seen_of d inner) → Joins 2 d₁ d₂ t (single s x (seen_of d₁ light) top (seen_of d₁ inner) (seen_of d₁ outer)) →
      Makes 3 1 d d₂ (Ok t) (double cs (gone_of d) s x (seen_of d light) top (seen_of d inner) (seen_of d outer))
  unfolding double
  twice_none cs s x top d d₁ d₂ light inner outer t f h i p q = record {
    grew = grew_wide 3 1 (omega arith) (omega arith) (grew_on p.grew q.grew);
    good = q.good;
    is = both (λ t g. Ok (record { top = t; gone = g }))
        (q.is ∙ ap (λ u. single s x u top (seen_of d₁ inner) (seen_of d₁ outer)) (seen_same light p.grew f)
        ∙ both (λ u v. single s x (seen_of d light) top u v) (seen_same inner p.grew h) (seen_same outer p.grew i))
        (q.gone ∙ p.gone)
        ∙ ap (double_by cs _ s x (seen_of d light) top (seen_of d inner) (seen_of d outer)) p.is;
  }

  pub twice_some : (cs : List (Cell K)) (s : Lean) (x top : Region K) (d d₁ d₂ : Draft K) (light inner outer : Side K) (mid : Branch K) (r : Result (Side K) StoreFault) → Good d light → Good d outer →
      Takes d d₁ (Some mid) (seen_of d inner) → Makes 3 0 d₁ d₂ r (raised cs (gone_of d₁) s x (seen_of d₁ light) top (parts_of d₁ mid) (seen_of d₁ outer)) →
      Makes 3 1 d d₂ r (double cs (gone_of d) s x (seen_of d light) top (seen_of d inner) (seen_of d outer))
  unfolding double
  twice_some cs s x top d d₁ d₂ light inner outer mid r f i p q = record {
    grew = grew_wide 3 1 (omega arith) (omega arith) (grew_on p.grew q.grew);
    good = q.good;
    is = q.is
        ∙ ap (λ g. raised cs g s x (seen_of d₁ light) top (parts_of d₁ mid) (seen_of d₁ outer)) p.gone
        ∙ both (λ u v. raised cs (without (gone_of d) (seen_of d inner)) s x u top (parts_of d₁ mid) v) (seen_same light p.grew f) (seen_same outer p.grew i)
        ∙ ap (double_by cs _ s x (seen_of d light) top (seen_of d inner) (seen_of d outer)) p.is;
  }

  pub turn_none : (cs : List (Cell K)) (s : Lean) (x : Region K) (d d₁ d₂ : Draft K) (light heavy t : Side K) → Good d light → Good d heavy →
      Takes d d₁ None (seen_of d heavy) → Joins 1 d₁ d₂ t (joined_by s x (seen_of d₁ light) (seen_of d₁ heavy)) →
      Makes 3 2 d d₂ (Ok t) (turned cs (gone_of d) s x (seen_of d light) (seen_of d heavy))
  unfolding turned
  turn_none cs s x d d₁ d₂ light heavy t f h p q = record {
    grew = grew_wide 3 2 (omega arith) (omega arith) (grew_on p.grew q.grew);
    good = q.good;
    is = both (λ t g. Ok (record { top = t; gone = g }))
        (q.is ∙ both (λ u v. joined_by s x u v) (seen_same light p.grew f) (seen_same heavy p.grew h))
        (q.gone ∙ p.gone)
        ∙ ap (turned_of cs _ s x (seen_of d light) (seen_of d heavy)) p.is;
  }

  pub turn_some : (cs : List (Cell K)) (s : Lean) (x : Region K) (d d₁ d₂ : Draft K) (light heavy : Side K) (top : Branch K) (r : Result (Side K) StoreFault) → Good d light →
      Takes d d₁ (Some top) (seen_of d heavy) → Makes 3 1 d₁ d₂ r (turned_over cs (gone_of d₁) s x (seen_of d₁ light) (parts_of d₁ top)) →
      Makes 3 2 d d₂ r (turned cs (gone_of d) s x (seen_of d light) (seen_of d heavy))
  unfolding turned
  turn_some cs s x d d₁ d₂ light heavy top r f p q = record {
    grew = grew_wide 3 2 (omega arith) (omega arith) (grew_on p.grew q.grew);
    good = q.good;
    is = q.is
        ∙ both (λ g u. turned_over cs g s x u (parts_of d₁ top)) p.gone (seen_same light p.grew f)
        ∙ ap (turned_of cs _ s x (seen_of d light) (seen_of d heavy)) p.is;
  }

  pub over_stop : (cs : List (Cell K)) (s : Lean) (x : Region K) (d : Draft K) (light : Seen K) (top : Parts K) (e y : StoreFault) (r : Result (Side K) StoreFault) →
      Err e ≡ both_seen cs (near s top) (far s top) → r ≡ Err y → y ≡ e → Makes 3 1 d d r (turned_over cs (gone_of d) s x light top)
  unfolding turned_over
  over_stop cs s x d light top e y r h p q = makes_wide 3 1 (omega arith) (omega arith) (makes_unseen d r e y cs (near s top) (far s top) _ p q h)

  over_by : {m j : ℕ} (cs : List (Cell K)) (s : Lean) (x : Region K) (d d' : Draft K) (light : Seen K) (inner outer : Side K) (top : Parts K) (a b : ℕ) (t : Bool) (r : Result (Side K) StoreFault) →
      Ok (seen_of d inner, seen_of d outer) ≡ both_seen cs (near s top) (far s top) → a ≡ side_weight inner → b ≡ side_weight outer → ltb a (2 * b) ≡ t →
      Makes m j d d' r (turned_by t cs (gone_of d) s x light top.region (seen_of d inner) (seen_of d outer)) → Makes m j d d' r (turned_over cs (gone_of d) s x light top)
  unfolding turned_over
  over_by cs s x d d' light inner outer top a b t r h v w z m =
      makes_seen cs (near s top) (far s top) (seen_of d inner) (seen_of d outer) _ h
      (makes_as m (ap (λ u. turned_by u cs (gone_of d) s x light top.region (seen_of d inner) (seen_of d outer))
      (sym z ∙ both (λ u y. ltb u (2 * y)) (v ∙ sym (weight_seen d inner)) (w ∙ sym (weight_seen d outer)))))

  pub over_once : (cs : List (Cell K)) (s : Lean) (x : Region K) (d d' : Draft K) (light : Seen K) (inner outer : Side K) (top : Parts K) (a b : ℕ) (t : Side K) →
      Ok (seen_of d inner, seen_of d outer) ≡ both_seen cs (near s top) (far s top) → a ≡ side_weight inner → b ≡ side_weight outer → a < 2 * b →
      Joins 2 d d' t (single s x light top.region (seen_of d inner) (seen_of d outer)) → Makes 3 1 d d' (Ok t) (turned_over cs (gone_of d) s x light top)
  unfolding turned_by
  over_once cs s x d d' light inner outer top a b t h v w z j =
      makes_wide 3 1 (omega arith) (omega arith) (over_by cs s x d d' light inner outer top a b true (Ok t) h v w (lt-ltb a (2 * b) z) (makes_joined j))

  pub over_twice : (cs : List (Cell K)) (s : Lean) (x : Region K) (d d' : Draft K) (light : Seen K) (inner outer : Side K) (top : Parts K) (a b : ℕ) (r : Result (Side K) StoreFault) →
      Ok (seen_of d inner, seen_of d outer) ≡ both_seen cs (near s top) (far s top) → a ≡ side_weight inner → b ≡ side_weight outer → 2 * b ≤ a →
      Makes 3 1 d d' r (double cs (gone_of d) s x light top.region (seen_of d inner) (seen_of d outer)) → Makes 3 1 d d' r (turned_over cs (gone_of d) s x light top)
  unfolding turned_by
  over_twice cs s x d d' light inner outer top a b r h v w z m =
      over_by cs s x d d' light inner outer top a b false r h v w (le-ltb a (2 * b) z) m

  -- the rule at the weights of two sides
  pub balance_by : {m j : ℕ} (cs : List (Cell K)) (x : Region K) (d d' : Draft K) (left right : Side K) (a b : ℕ) (o : Option Lean) (r : Result (Side K) StoreFault) →
      a ≡ side_weight left → b ≡ side_weight right → o ≡ heavy_side a b →
      Makes m j d d' r (balanced_by o cs (gone_of d) x (seen_of d left) (seen_of d right)) →
      Makes m j d d' r (balanced cs (gone_of d) x (seen_of d left) (seen_of d right))
  unfolding balanced
  balance_by cs x d d' left right a b o r v w e q =
      makes_as q (ap (λ u. balanced_by u cs (gone_of d) x (seen_of d left) (seen_of d right))
      (e ∙ both heavy_side (v ∙ sym (weight_seen d left)) (w ∙ sym (weight_seen d right))))
