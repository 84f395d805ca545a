-- What holds of every open lookup after each call of a run, and that each call keeps it.
use Rattle.std.proofs.Common.{◌≡◌, ℕ, suc, ◌<◌, ◌≤◌, T, List, [], ◌∷◌, length, get_or, Some, None, Option, sym, refl, ap, ◌∙◌, subst, arith, le→leb, Ok, Err}
use Rattle.store.specs.declared.node.Region.{Region}
use Rattle.trees.specs.Regions.{Laws, gives}
use Rattle.trees.specs.Trees.{Tree, leaf, node, seek}
use Rattle.trees.specs.Edits.{Place, whole}
use Rattle.runs.specs.declared.call.Answer.TheVariants.{Pending, Opened, Closed, On, Nothing, Found, Nodes}
use Rattle.runs.specs.Calls.{Kind, regions, Outcome}
use Rattle.runs.specs.Histories.{Event, History, at, set_of, First, Lookup, lookup, begun_by, open_since, told, first_told}
use Rattle.runs.specs.States.{State, Cells, Row, row, closed, row_of, Spells}
use Rattle.runs.specs.Effects.{StepTells}
use Rattle.runs.specs.Runs.{Turn, history, state}
use Rattle.runs.specs.Promise.{TrueAt}
use Rattle.lookups.specs.Ways.{GoingAt, FoundAt, AfterStep}
use Rattle.lookups.specs.Throughout.{RestKept, CallKept, RestThroughout}
use Rattle.lookups.proofs.Goings.{opens}
use Rattle.lookups.proofs.Steppings.{stepped}
use Rattle.lookups.proofs.Moments.{history_length, at_later, LeftSince, SetGave}
use Rattle.lookups.proofs.Sessions.{row_set, How, same, opened, stepped as has_stepped, how, rows_length}
use Rattle.lookups.proofs.Changes.{going_on, found_on, finds_now}

-- two links that spell one tree are one
same_link : {K : Type 0} (cs ds : Cells K) (ps qs : List ℕ) (a b : ℕ) (t u : Tree ℕ (Region K)) → Spells cs ps a t → Spells ds qs b u → u ≡ t → a ≡ b
same_link cs ds ps qs a b leaf leaf s r e = s ∙ sym r
same_link cs ds ps qs a b leaf (node n l x k) s r e = let z : ◌≡◌ {A = ℕ} 0 1 = cc in absurd (omega arith)
same_link cs ds ps qs a b (node n l x k) leaf s r e = let z : ◌≡◌ {A = ℕ} 0 1 = cc in absurd (omega arith)
same_link cs ds ps qs a b (node n l x k) (node m i y j) s r e = let c = s.1 in let d = r.1 in cc

module _ {K F : Type 0} (kd : Kind K F) where
  -- it is open since its moment
  pub opened_since : (s : ℕ) (l : Lookup K) (h : History K F) → lookup s h ≡ Some l → (i : ℕ) → l.since ≤ i → T (open_since h i s)
  opened_since s l h e i o = subst (λ (m : Option (Lookup K)). T (begun_by i m)) (sym e) (le→leb l.since i o)

  -- a lookup of k that has been open since a moment goes on at a link, after the calls ts, with the tree of p; it has found x at a node
  abbrev pub GoesAt : State (Cells K) → List (Turn (Cells K) K F) → Place ℕ (Region K) → ℕ → K → ℕ → List ℕ → Type 0
  GoesAt z ts p since k = GoingAt (LeftSince z ts since) (SetGave kd (history ts) since k) (seek (regions kd) k) (state z ts).memory (whole p)

  abbrev pub HasFound : State (Cells K) → List (Turn (Cells K) K F) → Place ℕ (Region K) → ℕ → ℕ → Region K → Type 0
  HasFound z ts p since = FoundAt (LeftSince z ts since) (state z ts).memory (whole p)

  -- THE INVARIANT of the lookup l of session s, after the calls ts, with the tree of p

  module _ (z : State (Cells K)) (ts : List (Turn (Cells K) K F)) (p : Place ℕ (Region K)) (s : ℕ) where
    -- going, it has seen as many nodes as it has made steps
    pub record Goes (l : Lookup K) : Type 0 where
      pub seen : List ℕ
      pub as_many : length seen ≡ l.steps
      pub going : GoesAt z ts p l.since l.key (row_of (state z ts) s).place seen

    abbrev pub AnsweredAt : Lookup K → Option (Region K) → Type 0
    AnsweredAt l None = (row_of (state z ts) s).place ≡ 0
    AnsweredAt l (Some x) = HasFound z ts p l.since (row_of (state z ts) s).place x

    pub record Answered (l : Lookup K) (f : First K) : Type 0 where
      pub true_at : TrueAt kd (history ts) l f
      pub answered_by : f.moment ≤ length ts
      pub at_place : AnsweredAt l f.gave

    abbrev pub GoesOrAnswered : Lookup K → Option (First K) → Type 0
    GoesOrAnswered l None = Goes l
    GoesOrAnswered l (Some f) = Answered l f

    pub record StandsSo (l : Lookup K) : Type 0 where
      pub in_table : s < 32
      pub key_formed : kd.fault l.key ≡ None
      pub since_past : l.since ≤ length ts
      pub so : GoesOrAnswered l l.first

  pub record AllStand (z : State (Cells K)) (ts : List (Turn (Cells K) K F)) (p : Place ℕ (Region K)) : Type 0 where
    pub table : length (state z ts).rows ≡ 32
    pub each : (s : ℕ) (l : Lookup K) → lookup s (history ts) ≡ Some l → StandsSo z ts p s l

  -- what the set gave at a moment before a call is what it gave then after the call too
  true_by :
      (e : Event K F) (h : History K F) (l : Lookup K) (f : First K) (m : ℕ) → l.since ≤ m → m ≤ length h → m ≤ f.moment →
      gives (regions kd) (set_of kd (at m h)) l.key ≡ f.gave → TrueAt kd (e ∷ h) l f
  true_by e h l f m a b c g = record {
    moment = m;
    not_before_opening = a;
    not_after_answer = c;
    set_gave = ap (λ (j : History K F). gives (regions kd) (set_of kd j) l.key) (at_later e h m b) ∙ g;
  }

  -- ONE CALL

  module _ (laws : Laws (regions kd)) (z : State (Cells K)) (t : Turn (Cells K) K F) (ts : List (Turn (Cells K) K F)) (p p' : Place ℕ (Region K)) (rest : RestKept kd z ts p)
      (rest' : RestKept kd z (t ∷ ts) p') (call : CallKept kd z ts t.call t.answer t.after p p') (before : AllStand z ts p) (s : ℕ) where
    -- a lookup that was open before the call and is after it
    module _ (l l' : Lookup K) (e : lookup s (history ts) ≡ Some l) (e' : lookup s (history (t ∷ ts)) ≡ Some l') (since-same : l.since ≡ l'.since)
        (key-same : l.key ≡ l'.key) where
      old : StandsSo z ts p s l
      old = before.each s l e

      still : (i : ℕ) → l.since ≤ i → T (open_since (history (t ∷ ts)) i s)
      still i o = opened_since s l' (history (t ∷ ts)) e' i (subst (λ (j : ℕ). j ≤ i) since-same o)

      -- at the place that its row has after the call
      module _ (w : Row) (r : row_of t.after s ≡ w) where
        found_over :
            (x : Region K) → HasFound z ts p l.since w.place x → HasFound z (t ∷ ts) p' l'.since (row_of t.after s).place x
        found_over x f =
            let g = found_on kd z t ts p p' rest rest' call s l.since old.since_past (opened_since s l (history ts) e) still w.place x f in
            subst (λ (v : Row). HasFound z (t ∷ ts) p' l'.since v.place x) (sym r)
            (subst (λ (j : ℕ). HasFound z (t ∷ ts) p' j w.place x) since-same g)

        going_over :
            (seen : List ℕ) → GoesAt z ts p l.since l.key w.place seen →
            GoesAt z (t ∷ ts) p' l'.since l'.key (row_of t.after s).place seen
        going_over seen g =
            let now = finds_now kd laws z ts p l.since l.key rest old.key_formed old.since_past in
            let g' =
            going_on kd z t ts p p' rest rest' call s l.since old.since_past (opened_since s l (history ts) e) still l.key w.place seen old.key_formed now g in
            subst (λ (v : Row). GoesAt z (t ∷ ts) p' l'.since l'.key v.place seen) (sym r)
            (subst (λ (j : ℕ). GoesAt z (t ∷ ts) p' j l'.key w.place seen) since-same (subst (λ (k : K). GoesAt z (t ∷ ts) p' l.since k w.place seen) key-same g'))

      -- what is common to all
      over : GoesOrAnswered z (t ∷ ts) p' s l' l'.first → StandsSo z (t ∷ ts) p' s l'
      over g = record {
        in_table = old.in_table;
        key_formed = subst (λ (k : K). kd.fault k ≡ None) key-same old.key_formed;
        since_past = let i = old.since_past in omega arith;
        so = g;
      }

      -- one that is answered, and one that is going and does not step
      answered_over : (f : First K) → row_of t.after s ≡ row_of (state z ts) s → Answered z ts p s l f → Answered z (t ∷ ts) p' s l' f
      answered_over f r a =
          let n = history_length ts in
          let m = a.true_at.not_after_answer in
          let b = a.true_at.not_before_opening in
          let i = a.answered_by in
          record {
            true_at =
                true_by _ (history ts) l' f a.true_at.moment (omega arith) (omega arith) m
                (ap (λ (k : K). gives (regions kd) (set_of kd (at a.true_at.moment (history ts))) k) (sym key-same) ∙ a.true_at.set_gave);
            answered_by = omega arith;
            at_place = by_gave f.gave a.at_place;
          }
        where
          by_gave : (o : Option (Region K)) → AnsweredAt z ts p s l o → AnsweredAt z (t ∷ ts) p' s l' o
          by_gave None q = ap (λ (w : Row). w.place) r ∙ q
          by_gave (Some x) q = found_over (row_of (state z ts) s) r x q

      going_same : row_of t.after s ≡ row_of (state z ts) s → l.steps ≡ l'.steps → Goes z ts p s l → Goes z (t ∷ ts) p' s l'
      going_same r n g = record { seen = g.seen; as_many = g.as_many ∙ n; going = going_over (row_of (state z ts) s) r g.seen g.going }

      -- one that steps
      first_answer :
          (o : Option (Region K)) (n : ℕ) → SetGave kd (history ts) l.since l.key o → AnsweredAt z (t ∷ ts) p' s l' o →
          Answered z (t ∷ ts) p' s l' (record { gave = o; steps = n; moment = suc (length (history ts)) })
      first_answer o n g a =
          let b = g.not_before in
          let c = g.not_after in
          record {
            true_at =
                true_by _ (history ts) l' (record { gave = o; steps = n; moment = suc (length (history ts)) }) g.moment (omega arith) c (omega arith)
                (ap (λ (k : K). gives (regions kd) (set_of kd (at g.moment (history ts))) k) (sym key-same) ∙ g.given_then);
            answered_by = omega (arith, history_length ts);
            at_place = a;
          }

      module _ (steps_more : suc l.steps ≡ l'.steps) (g : Goes z ts p s l) (w : Row) (r : row_of t.after s ≡ w) where
        told_over :
            (a : Outcome K F) →
            AfterStep (LeftSince z ts l.since) (SetGave kd (history ts) l.since l.key) (seek (regions kd) l.key) (state z ts).memory (whole p)
            (row_of (state z ts) s).place g.seen a w →
            GoesOrAnswered z (t ∷ ts) p' s l' (told (suc (length (history ts))) a)
        told_over (Ok (Found x n)) a = first_answer (Some x) n a.0 (found_over w r x a.1)
        told_over (Ok (Nothing n)) a = first_answer None n a.0 (ap (λ (v : Row). v.place) r ∙ a.1)
        told_over (Ok (On n)) a = record {
          seen = (row_of (state z ts) s).place ∷ g.seen;
          as_many = ap suc g.as_many ∙ steps_more;
          going = going_over w r ((row_of (state z ts) s).place ∷ g.seen) a;
        }
        told_over (Ok (Pending n)) a = absurd a
        told_over (Ok Opened) a = absurd a
        told_over (Ok Closed) a = absurd a
        told_over (Ok (Nodes b c d)) a = absurd a
        told_over (Err c) a = absurd a

      step_over :
          suc l.steps ≡ l'.steps → s < 32 → (f : Option (First K)) → GoesOrAnswered z ts p s l f → StepTells kd (state z ts) s l f t.answer t.after.rows →
          GoesOrAnswered z (t ∷ ts) p' s l' (first_told (suc (length (history ts))) t.answer f)
      step_over n i (Some f) g b = answered_over f (ap (λ (ws : List Row). get_or ws s (row closed 0 0)) b.1) g
      step_over n i None g b =
          told_over n g b.0 (row_set kd (history ts) (state z ts) p t.answer t.after p' before.table s b.0 i b.2) t.answer
          (stepped kd (LeftSince z ts l.since) (SetGave kd (history ts) l.since l.key) l.key (state z ts).memory (whole p) g.seen
          (finds_now kd laws z ts p l.since l.key rest old.key_formed old.since_past) (row_of (state z ts) s).place l.steps t.answer b.0
          g.going b.1)

      same_over : row_of t.after s ≡ row_of (state z ts) s → l.steps ≡ l'.steps → (f : Option (First K)) → GoesOrAnswered z ts p s l f → GoesOrAnswered z (t ∷ ts) p' s l' f
      same_over r n None g = going_same r n g
      same_over r n (Some f) g = answered_over f r g

    -- one that is opened
    just_opened :
        (k : K) → (row_of t.after s).place ≡ (state z ts).root → kd.fault k ≡ None → whole p' ≡ whole p → s < 32 →
        StandsSo z (t ∷ ts) p' s (record { key = k; since = suc (length (history ts)); steps = 0; first = None })
    just_opened k r f w i =
        let n = history_length ts in
        let now = finds_now kd laws z (t ∷ ts) p' (suc (length (history ts))) k rest' f (omega arith) in
        let root =
        same_link (state z ts).memory t.after.memory (state z ts).pending t.after.pending (state z ts).root t.after.root (whole p) (whole p')
        rest.tree_stands.spelled rest'.tree_stands.spelled w in
        record {
          in_table = i;
          key_formed = f;
          since_past = omega arith;
          so = record {
            seen = [];
            as_many = refl;
            going =
                subst (λ (q : ℕ). GoesAt z (t ∷ ts) p' (suc (length (history ts))) k q []) (sym (r ∙ root))
                (opens _ _ (seek (regions kd) k) t.after.memory t.after.pending t.after.root (whole p') rest'.tree_stands.spelled rest'.stands.distinct now);
          };
        }

    each_after : (l' : Lookup K) → lookup s (history (t ∷ ts)) ≡ Some l' → StandsSo z (t ∷ ts) p' s l'
    each_after l' e = by_how (how kd (history ts) (state z ts) p t.answer t.after p' before.table t.call s l' call.exact e)
      where
        by_how : How kd (history ts) (state z ts) p t.answer t.after p' t.call s l' → StandsSo z (t ∷ ts) p' s l'
        by_how (same e' r) = over l' l' e' e refl refl (same_over l' l' e' e refl refl r refl l'.first (before.each s l' e').so)
        by_how (opened k d r f w i) = subst (StandsSo z (t ∷ ts) p' s) (sym d) (just_opened k r f w i)
        by_how (has_stepped l e' d b i) =
            let since = sym (ap (λ (m : Lookup K). m.since) d) in
            let key = sym (ap (λ (m : Lookup K). m.key) d) in
            over l l' e' e since key
            (subst (GoesOrAnswered z (t ∷ ts) p' s l') (sym (ap (λ (m : Lookup K). m.first) d))
            (step_over l l' e' e since key (sym (ap (λ (m : Lookup K). m.steps) d)) i l.first (before.each s l e').so b))

  -- EVERY CALL
  pub rest_now : (z : State (Cells K)) (ts : List (Turn (Cells K) K F)) (p : Place ℕ (Region K)) → RestThroughout kd z ts p → RestKept kd z ts p
  rest_now z [] p r = r.0
  rest_now z (t ∷ ts) p r = r.0

  pub all_stand : Laws (regions kd) → (z : State (Cells K)) (ts : List (Turn (Cells K) K F)) (p : Place ℕ (Region K)) → RestThroughout kd z ts p → AllStand z ts p
  all_stand laws z [] p r = record { table = r.1; each = λ s l e. let n : ◌≡◌ {A = ℕ} 0 1 = cc in absurd (omega arith) }
  all_stand laws z (t ∷ ts) p' r =
      let came = r.1 in
      let before = all_stand laws z ts came.0 came.1 in
      record {
        table = rows_length kd (history ts) (state z ts) came.0 t.answer t.after p' t.call came.2.exact ∙ before.table;
        each = λ s l e. each_after laws z t ts came.0 p' (rest_now z ts came.0 came.1) r.0 came.2 before s l e;
      }
