-- One step after another: how what the draft came to follows what the definitions say.
use Rattle.std.proofs.Common.{◌≡◌, ℕ, ◌+◌, ◌≤◌, Ok, Err, Result, sym, refl, ap, ◌∙◌, subst}
use Rattle.store.specs.declared.fault.StoreFault.{StoreFault}
use Rattle.drafts.specs.declared.link.Link.{Link}
use Rattle.drafts.specs.declared.link.Side.{Side}
use Rattle.drafts.specs.declared.draft.Draft.{Draft}
use Rattle.drafts.specs.Grown.{Built, bind}
use Rattle.drafts.specs.Drafts.{tree_of, Fine, gone_of, Grew, Good, seen_of, link_of, Makes}
use Rattle.drafts.proofs.Seeing.{grew_none, grew_wide, grew_on, tree_seen, good_fine}
use Rattle.drafts.proofs.Turning.{bind_at, bind_stop}
use Rattle.walks.specs.Walks.{graft_of}
use Rattle.walks.specs.Outcomes.{Comes, Grafts}

module _ {K : Type 0} where
  abbrev pub built_in : Draft K → Side K → Built K
  built_in d s = record { top = seen_of d s; gone = gone_of d }

  pub from_makes : {m j : ℕ} {d d' : Draft K} (r : Result (Side K) StoreFault) {told : Result (Built K) StoreFault} → Makes m j d d' r told → Comes Good built_in m j d d' r told
  from_makes (Ok s) q = record { grew = q.grew; good = q.good; is = q.is }
  from_makes (Err e) q = record { grew = q.grew; good = tt; is = q.is }

  pub to_makes : {m j : ℕ} {d d' : Draft K} (r : Result (Side K) StoreFault) {told : Result (Built K) StoreFault} → Comes Good built_in m j d d' r told → Makes m j d d' r told
  to_makes (Ok s) q = record { grew = q.grew; good = q.good; is = q.is }
  to_makes (Err e) q = record { grew = q.grew; good = tt; is = q.is }

module _ {K A B : Type 0} {fair : Draft K → A → Type 0} {means : Draft K → A → B} where
  pub comes_wide : {m j : ℕ} {d d' : Draft K} {r : Result A StoreFault} {told : Result B StoreFault} (m' j' : ℕ) → m ≤ m' → j ≤ j' → Comes fair means m j d d' r told → Comes fair means m' j' d d' r told
  comes_wide m' j' h h' q = record { grew = grew_wide m' j' h h' q.grew; good = q.good; is = q.is }

  pub comes_as : {m j : ℕ} {d d' : Draft K} {r : Result A StoreFault} {t t' : Result B StoreFault} → Comes fair means m j d d' r t → t ≡ t' → Comes fair means m j d d' r t'
  comes_as q e = record { grew = q.grew; good = q.good; is = q.is ∙ e }

  -- nothing more is done
  pub comes_ok : (d : Draft K) (a : A) → fair d a → Comes fair means 0 0 d d (Ok a) (Ok (means d a))
  comes_ok d a f = record { grew = grew_none d; good = f; is = refl }

  pub comes_refused : (d : Draft K) (r : Result A StoreFault) (e y : StoreFault) {told : Result B StoreFault} → r ≡ Err y → y ≡ e → Err e ≡ told → Comes fair means 0 0 d d r told
  comes_refused d r e y p q h = record { grew = grew_none d; good = rw p tt; is = rw (p, q) h }

  pub comes_after : {m j m' j' : ℕ} {d d₁ d₂ : Draft K} {r : Result A StoreFault} {told : Result B StoreFault} → Grew m j d d₁ → Comes fair means m' j' d₁ d₂ r told → Comes fair means (m + m') (j + j') d d₂ r told
  comes_after g q = record { grew = grew_on g q.grew; good = q.good; is = q.is }

  -- a read, and the exit of one
  pub comes_read : {C : Type 0} {m j : ℕ} {d d' : Draft K} {r : Result A StoreFault} (w : Result C StoreFault) (a : C) (k : C → Result B StoreFault) →
      Ok a ≡ w → Comes fair means m j d d' r (k a) → Comes fair means m j d d' r (bind w k)
  comes_read w a k e q = comes_as q (bind_at w a k e)

  pub comes_unread : {C : Type 0} (d : Draft K) (r : Result A StoreFault) (e y : StoreFault) (w : Result C StoreFault) (k : C → Result B StoreFault) →
      r ≡ Err y → y ≡ e → Err e ≡ w → Comes fair means 0 0 d d r (bind w k)
  comes_unread d r e y w k p q h = comes_refused d r e y p q (bind_stop w e k h)

-- a step that drafts, and the exit of one
module _ {K A B A' B' : Type 0} {fair : Draft K → A → Type 0} {means : Draft K → A → B} {fair' : Draft K → A' → Type 0} {means' : Draft K → A' → B'} where
  pub comes_then : {m j m' j' : ℕ} {d d₁ d₂ : Draft K} {a : A} {r : Result A' StoreFault} {w : Result B StoreFault} (k : B → Result B' StoreFault) →
      Comes fair means m j d d₁ (Ok a) w → Comes fair' means' m' j' d₁ d₂ r (k (means d₁ a)) → Comes fair' means' (m + m') (j + j') d d₂ r (bind w k)
  comes_then k p q = record { grew = grew_on p.grew q.grew; good = q.good; is = q.is ∙ bind_at _ _ k p.is }

  pub comes_stop : {m j : ℕ} {d d₁ : Draft K} {e y : StoreFault} {r : Result A' StoreFault} {w : Result B StoreFault} (k : B → Result B' StoreFault) →
      Comes fair means m j d d₁ (Err e) w → r ≡ Err y → y ≡ e → Comes fair' means' m j d d₁ r (bind w k)
  comes_stop k p a b = record { grew = p.grew; good = rw a tt; is = rw (a, b) (bind_stop _ _ k p.is) }

module _ {K : Type 0} where
  -- the link to a side that was made
  pub comes_linked : (d : Draft K) (s : Side K) (l : Link) → l ≡ link_of s → Good d s → Grafts 0 0 d d (Ok l) (Ok (graft_of (built_in d s)))
  comes_linked d s l e f = comes_as (comes_ok d l (subst (λ x. Fine d x) (sym e) (good_fine d s f)))
      (ap (λ t. Ok (record { side = t; gone = gone_of d })) (ap (tree_of d) e ∙ tree_seen d s f))
