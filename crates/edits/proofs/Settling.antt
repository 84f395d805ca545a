-- The exits of an advance.
use Rattle.std.proofs.Common.{◌≡◌, ℕ, Bool, true, false, cond, ltb, List, [], ◌∷◌, length, Some, None, Ok, Err, Option, Result, sym, refl, ap, ◌∙◌, subst, arith}
use Rattle.store.specs.declared.fault.StoreFault.{StoreFault}
use Rattle.store.specs.Cells.{Cell}
use Rattle.drafts.specs.declared.link.Lean.{Lean}
use Rattle.drafts.specs.Grown.{bind, weight, heavy_side}
use Rattle.edits.specs.declared.fault.Doing.TheVariants.{Rotation}
use Rattle.edits.specs.declared.fault.TreeFault.{TreeFault}
use Rattle.edits.specs.declared.fault.Refusal.{Refusal}
use Rattle.edits.specs.declared.fault.Refusal.TheVariants.{Resting, Crowded, Refused}
use Rattle.search.specs.Paths.{lowest, above}
use Rattle.edits.specs.Refusals.{refused_in}
use Rattle.search.specs.Frees.{free_count}
use Rattle.edits.specs.Calls.{Sized, Turned, Change, sized, turned_at, turned_change, rotation, treated, lowest_treated, advanced, Ends, TurnEnds, Within, EditsInside, TurnsInside}
use Rattle.commits.proofs.Bounds.{bind_inv}

module _ {K : Type 0} (cs : List (Cell K)) (path : List ℕ) (root sessions : ℕ) where
  abbrev Told : List ℕ → Result (Change K) Refusal
  Told ns = advanced cs path root sessions ns

  told_sized : (ns : List ℕ) (n : ℕ) (w : Sized K) → Some n ≡ lowest path → Ok w ≡ sized cs n →
      treated cs (above path) root sessions ns w (heavy_side (weight w.left) (weight w.right)) ≡ advanced cs path root sessions ns
  unfolding advanced refused_in
  told_sized ns n w h e =
      ap (λ x. bind (refused_in Rotation x) (λ v. treated cs (above path) root sessions ns v (heavy_side (weight v.left) (weight v.right)))) e
      ∙ ap (lowest_treated cs (above path) root sessions ns) h

  pub ends_resting : (r : Result ℕ Refusal) → None ≡ lowest path → r ≡ Err Resting → EditsInside cs cs path path root root r Told
  unfolding advanced
  ends_resting r h q = record {
    edits = record {
      numbers = [];
      chosen = tt;
      ends = subst (λ o. Ends cs cs path path root root r (lowest_treated cs (above path) root sessions [] o)) h (q, refl, refl, refl);
    };
    inside = subst (λ o. Within (length cs) (lowest_treated cs (above path) root sessions [] o)) h tt;
  }

  pub ends_unread : (n : ℕ) (f : StoreFault) (e : TreeFault) (y : Refusal) (r : Result ℕ Refusal) → Some n ≡ lowest path → Err f ≡ sized cs n → r ≡ Err y → y ≡ Refused e →
      e ≡ record { doing = Rotation; fault = f } → EditsInside cs cs path path root root r Told
  unfolding advanced refused_in
  ends_unread n f e y r h i p q z = record {
    edits = record {
      numbers = [];
      chosen = tt;
      ends = subst (Ends cs cs path path root root r)
          (ap (λ x. bind (refused_in Rotation x) (λ v. treated cs (above path) root sessions [] v (heavy_side (weight v.left) (weight v.right)))) i
          ∙ ap (lowest_treated cs (above path) root sessions []) h)
          (p ∙ ap Err (q ∙ ap Refused z), refl, refl, refl);
    };
    inside = subst (Within (length cs))
        (ap (λ x. bind (refused_in Rotation x) (λ v. treated cs (above path) root sessions [] v (heavy_side (weight v.left) (weight v.right)))) i
        ∙ ap (lowest_treated cs (above path) root sessions []) h)
        tt;
  }

  path_by : (path₀ ns : List ℕ) (m : Result (Turned K) Refusal) (b : Bool) (c : Change K) → Ok c ≡ cond b (Err Crowded) (bind m (λ t. Ok (turned_change path₀ root sessions ns t))) → c.path ≡ path₀
  path_by path₀ ns m true c e = let z : ◌≡◌ {A = ℕ} 0 1 = cc in let w : ⊥ = omega arith in elim w [ ]
  path_by path₀ ns m false c e =
      let i = bind_inv m _ c e in
      let q : c ≡ turned_change path₀ root sessions ns i.0 = let f = i.2 in cc in
      ap (λ x. x.path) q

  rotation_path : (path₀ ns : List ℕ) (w : Sized K) (s : Lean) (c : Change K) → Ok c ≡ rotation cs path₀ root sessions ns w s → c.path ≡ path₀
  unfolding rotation
  rotation_path path₀ ns w s c e = path_by path₀ ns (refused_in Rotation (turned_at cs path₀ w s)) (ltb (free_count cs) 3) c e

  treated_path : (path₀ ns : List ℕ) (w : Sized K) (o : Option Lean) (c : Change K) → Ok c ≡ treated cs path₀ root sessions ns w o → c.path ≡ path₀
  treated_path path₀ ns w None c e = let q : c ≡ record { path = path₀; root = root; writes = w.node ∷ [] } = cc in ap (λ x. x.path) q
  treated_path path₀ ns w (Some s) c e = rotation_path path₀ ns w s c e

  settle_ok : (ds : List (Cell K)) (path₀ ns : List ℕ) (root' k : ℕ) (w : Sized K) (o : Option Lean) (x : Result (Change K) Refusal) → x ≡ treated cs path₀ root sessions ns w o → k ≡ length path₀ →
      TurnEnds cs ds root root' (Ok tt) x → Ends cs ds path path₀ root root' (Ok k) x
  settle_ok ds path₀ ns root' k w o (Ok c) e q t =
      let p = treated_path path₀ ns w o c e in (ap Ok (q ∙ ap length (sym p)), sym p, t.1, t.2)
  settle_ok ds path₀ ns root' k w o (Err y) e q t = let u = t.0 in let z : ◌≡◌ {A = ℕ} 0 1 = cc in let v : ⊥ = omega arith in elim v [ ]

  settle_err : (ds : List (Cell K)) (root' : ℕ) (y : Refusal) (x : Result (Change K) Refusal) (r : Result ℕ Refusal) → r ≡ Err y → TurnEnds cs ds root root' (Err y) x → Ends cs ds path path root root' r x
  settle_err ds root' y (Ok c) r e t = let u = t.0 in let z : ◌≡◌ {A = ℕ} 0 1 = cc in let v : ⊥ = omega arith in elim v [ ]
  settle_err ds root' y (Err f) r e t = let u = t.0 in let q : y ≡ f = cc in (e ∙ ap Err q, refl, t.1, t.2)

  abbrev Treated : Sized K → List ℕ → Result (Change K) Refusal
  Treated w ns = treated cs (above path) root sessions ns w (heavy_side (weight w.left) (weight w.right))

  pub ends_treated : (ds : List (Cell K)) (n k root' : ℕ) (w : Sized K) (path' : List ℕ) → Some n ≡ lowest path → Ok w ≡ sized cs n → path' ≡ above path → k ≡ length path' →
      TurnsInside cs ds root root' (Ok tt) (Treated w) → EditsInside cs ds path path' root root' (Ok k) Told
  ends_treated ds n k root' w path' h e p q t =
      let u = told_sized t.turns.numbers n w h e in
      record {
        edits = record {
          numbers = t.turns.numbers;
          chosen = t.turns.chosen;
          ends = subst (Ends cs ds path path' root root' (Ok k)) u
              (subst (λ z. Ends cs ds path z root root' (Ok k) (Treated w t.turns.numbers)) (sym p)
              (settle_ok ds (above path) t.turns.numbers root' k w (heavy_side (weight w.left) (weight w.right)) _ refl (q ∙ ap length p) t.turns.ends));
        };
        inside = subst (Within (length cs)) u t.inside;
      }

  pub ends_untreated : (ds : List (Cell K)) (n root' : ℕ) (w : Sized K) (path' : List ℕ) (y y' : Refusal) (r : Result ℕ Refusal) → Some n ≡ lowest path → Ok w ≡ sized cs n → path' ≡ path →
      TurnsInside cs ds root root' (Err y) (Treated w) → r ≡ Err y' → y' ≡ y → EditsInside cs ds path path' root root' r Told
  ends_untreated ds n root' w path' y y' r h e i t p q =
      let u = told_sized t.turns.numbers n w h e in
      record {
        edits = record {
          numbers = t.turns.numbers;
          chosen = t.turns.chosen;
          ends = subst (Ends cs ds path path' root root' r) u
              (subst (λ z. Ends cs ds path z root root' r (Treated w t.turns.numbers)) (sym i) (settle_err ds root' y _ r (p ∙ ap Err q) t.turns.ends));
        };
        inside = subst (Within (length cs)) u t.inside;
      }
