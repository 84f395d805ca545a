-- The exits of a rotation: too few free nodes, a refused read, or all of it written.
use Rattle.std.proofs.Common.{◌≡◌, ℕ, ◌<◌, ◌≤◌, false, cond, List, [], ◌∷◌, length, drop, Some, None, Ok, Err, Option, Result, sym, refl, ap, ◌∙◌, subst, arith}
use Rattle.std.proofs.lemmas.Bool.{lt-ltb, le-ltb}
use Rattle.store.specs.declared.fault.StoreFault.{StoreFault}
use Rattle.store.specs.Cells.{Cell}
use Rattle.store.specs.Faults.{outside}
use Rattle.drafts.specs.declared.link.Lean.{Lean}
use Rattle.drafts.specs.declared.link.Link.{Link}
use Rattle.drafts.specs.declared.link.Side.{Side}
use Rattle.drafts.specs.declared.draft.Draft.{Draft}
use Rattle.drafts.specs.Grown.{bind, tree, weight, heavy_side}
use Rattle.drafts.specs.Drafts.{tree_of, Fine, Good, seen_of, gone_of, link_of}
use Rattle.drafts.proofs.Seeing.{tree_seen, good_fine}
use Rattle.edits.specs.declared.fault.Doing.{Doing}
use Rattle.edits.specs.declared.fault.Doing.TheVariants.{Rotation}
use Rattle.edits.specs.declared.fault.TreeFault.{TreeFault}
use Rattle.edits.specs.declared.fault.Refusal.{Refusal}
use Rattle.edits.specs.declared.fault.Refusal.TheVariants.{Crowded, Refused}
use Rattle.commits.specs.declared.writes.Joint.{Joint}
use Rattle.search.specs.declared.free.Found.{Found}
use Rattle.edits.specs.Refusals.{during, refused_in}
use Rattle.search.specs.Frees.{Chosen, Finds, free_count, found_of, left_of}
use Rattle.commits.specs.Commits.{Writes, AllInside, news, placed, root_after, committed, GoneInside, JointInside}
use Rattle.edits.specs.Calls.{Sized, Turned, sized, turned_at, turned_change, rotation, treated, TurnEnds, Within, TurnsInside}
use Rattle.commits.proofs.Bounds.{chosen_inside}
use Rattle.edits.proofs.Weighing.{turned_bound}

pub during_ok : {T : Type 0} (k : Doing) (r : Result T StoreFault) (x : T) → Ok x ≡ during k r → r ≡ Ok x
during_ok k (Ok y) x e = let q : y ≡ x = cc in ap Ok q
during_ok k (Err f) x e = let z : ◌≡◌ {A = ℕ} 0 1 = cc in let w : ⊥ = omega arith in elim w [ ]

pub during_err : {T : Type 0} (k : Doing) (r : Result T StoreFault) (e : TreeFault) → Err e ≡ during k r → (f : StoreFault) × (r ≡ Err f) × (e ≡ record { doing = k; fault = f })
during_err k (Ok y) e h = let z : ◌≡◌ {A = ℕ} 0 1 = cc in let w : ⊥ = omega arith in elim w [ ]
during_err k (Err f) e h = let q : e ≡ record { doing = k; fault = f } = cc in (f, refl, q)

-- the numbers that are left are all that were found
pub unused : (f : Found) → f.used ≡ 0 → left_of f ≡ found_of f
unused f e = ap (λ k. drop k (found_of f)) e

pub enough : {K : Type 0} (cs : List (Cell K)) (ns : List ℕ) → Finds cs 3 ns → 3 ≤ length ns → 3 ≤ free_count cs
enough cs ns f h = omega (arith, f.many)

module _ {K : Type 0} (cs : List (Cell K)) (path : List ℕ) (root sessions : ℕ) (w : Sized K) (s : Lean) where
  pub turn_crowded : (ns : List ℕ) → Finds cs 3 ns → length ns < 3 → TurnsInside cs cs root root (Err Crowded) (λ ns. rotation cs path root sessions ns w s)
  unfolding rotation
  turn_crowded ns f h =
      let l : free_count cs < 3 = omega (arith, f.many) in
      record {
        turns = record {
          numbers = [];
          chosen = tt;
          ends = subst (λ b. TurnEnds cs cs root root (Err Crowded) (cond b (Err Crowded) (bind (refused_in Rotation (turned_at cs path w s)) (λ t. Ok (turned_change path root sessions [] t)))))
              (sym (lt-ltb (free_count cs) 3 l)) (refl, refl, refl);
        };
        inside = subst (λ b. Within (length cs) (cond b (Err Crowded) (bind (refused_in Rotation (turned_at cs path w s)) (λ t. Ok (turned_change path root sessions [] t))))) (sym (lt-ltb (free_count cs) 3 l)) tt;
      }

  told : (ns : List ℕ) (x : Result (Turned K) StoreFault) → 3 ≤ free_count cs → x ≡ turned_at cs path w s →
      bind (refused_in Rotation x) (λ t. Ok (turned_change path root sessions ns t)) ≡ rotation cs path root sessions ns w s
  unfolding rotation
  told ns x h e =
      ap (λ y. bind (refused_in Rotation y) (λ t. Ok (turned_change path root sessions ns t))) e
      ∙ ap (λ b. cond b (Err Crowded) (bind (refused_in Rotation (turned_at cs path w s)) (λ t. Ok (turned_change path root sessions ns t)))) (sym (le-ltb (free_count cs) 3 h))

  pub turn_refused : (f : StoreFault) (e : TreeFault) (y : Refusal) (r : Result (Unit {0}) Refusal) → 3 ≤ free_count cs → Err f ≡ turned_at cs path w s → r ≡ Err y → y ≡ Refused e →
      e ≡ record { doing = Rotation; fault = f } → TurnsInside cs cs root root r (λ ns. rotation cs path root sessions ns w s)
  unfolding refused_in
  turn_refused f e y r h t p q z = record {
    turns = record { numbers = []; chosen = tt; ends = subst (TurnEnds cs cs root root r) (told [] (Err f) h t) (p ∙ ap Err (q ∙ ap Refused z), refl, refl) };
    inside = subst (Within (length cs)) (told [] (Err f) h t) tt;
  }

  pub turn_done : (ds : List (Cell K)) (d : Draft K) (l : Link) (top : Side K) (j : Option (Joint K)) (root' : ℕ) (ns : List ℕ) → 3 ≤ free_count cs → Chosen cs ns →
      Ok (record { built = record { top = seen_of d top; gone = gone_of d }; joint = j }) ≡ turned_at cs path w s → l ≡ link_of top → Good d top → GoneInside (length cs) (committed j (placed (tree_of d l) ns) sessions (gone_of d)) →
      root' ≡ root_after j (placed (tree_of d l) ns).top root → Writes cs (committed j (placed (tree_of d l) ns) sessions (gone_of d)) ds →
      TurnsInside cs ds root root' (Ok tt) (λ ns. rotation cs path root sessions ns w s)
  unfolding refused_in
  turn_done ds d l top j root' ns h c t a b m p q =
      let e : tree_of d l ≡ tree (seen_of d top) = ap (tree_of d) a ∙ tree_seen d top b in
      record {
        turns = record {
          numbers = ns;
          chosen = c;
          ends = subst (TurnEnds cs ds root root' (Ok tt)) (told ns _ h t)
              (refl, p ∙ ap (λ x. root_after j (placed x ns).top root) e, subst (λ x. Writes cs (committed j (placed x ns) sessions (gone_of d)) ds) e q);
        };
        inside = subst (Within (length cs)) (told ns _ h t) (subst (λ x. GoneInside (length cs) (committed j (placed x ns) sessions (gone_of d))) e m);
      }

module _ {K : Type 0} (cs : List (Cell K)) (path : List ℕ) (root sessions : ℕ) (w : Sized K) where
  -- a node that was weighed is written, or its rotation is linked
  abbrev Treats : List (Cell K) → ℕ → Result (Unit {0}) Refusal → Option Lean → Type 0
  Treats ds root' r o = TurnsInside cs ds root root' r (λ ns. treated cs path root sessions ns w o)

  heavy_as : (a b : ℕ) (o : Option Lean) → o ≡ heavy_side a b → a ≡ weight w.left → b ≡ weight w.right → o ≡ heavy_side (weight w.left) (weight w.right)
  heavy_as a b o e f g = e ∙ ap (λ x. heavy_side x b) f ∙ ap (heavy_side (weight w.left)) g

  pub treat_turned : (ds : List (Cell K)) (root' : ℕ) (r : Result (Unit {0}) Refusal) (a b : ℕ) (s : Lean) → Some s ≡ heavy_side a b → a ≡ weight w.left → b ≡ weight w.right →
      TurnsInside cs ds root root' r (λ ns. rotation cs path root sessions ns w s) → TurnsInside cs ds root root' r (λ ns. treated cs path root sessions ns w (heavy_side (weight w.left) (weight w.right)))
  treat_turned ds root' r a b s e f g t = subst (Treats ds root' r) (heavy_as a b (Some s) e f g) t

  pub treat_written : (ds : List (Cell K)) (a b : ℕ) → None ≡ heavy_side a b → a ≡ weight w.left → b ≡ weight w.right → outside w.node.number (length cs) ≡ false → Writes cs (w.node ∷ []) ds →
      TurnsInside cs ds root root (Ok tt) (λ ns. treated cs path root sessions ns w (heavy_side (weight w.left) (weight w.right)))
  treat_written ds a b e f g z u =
      subst (Treats ds root (Ok tt)) (heavy_as a b None e f g)
      (record { turns = record { numbers = []; chosen = tt; ends = (refl, refl, u) }; inside = (z, tt) })

-- what the commit wants
pub record Ready {K : Type 0} (N : ℕ) (d : Draft K) (l : Link) (j : Option (Joint K)) (ns : List ℕ) : Type 0 where
  pub link : Fine d l
  pub many : news (tree_of d l) ≤ length ns
  pub inside : AllInside N ns
  pub joint : JointInside N j
  pub gone : GoneInside N (gone_of d)

pub ready : {K : Type 0} (cs : List (Cell K)) (path : List ℕ) (n : ℕ) (w : Sized K) (s : Lean) (d : Draft K) (l : Link) (top : Side K) (j : Option (Joint K)) (f : Found) → Ok w ≡ sized cs n →
    Ok (record { built = record { top = seen_of d top; gone = gone_of d }; joint = j }) ≡ turned_at cs path w s → l ≡ link_of top → Good d top →
    Finds cs 3 (found_of f) → f.used ≡ 0 → 3 ≤ length (found_of f) → Ready (length cs) d l j (left_of f)
ready cs path n w s d l top j f e t a b q u h =
    let k = turned_bound cs path n w s _ e t in
    let z = unused f u in
    record {
      link = subst (λ x. Fine d x) (sym a) (good_fine d top b);
      many = omega (arith, k.built.few, ap news (ap (tree_of d) a ∙ tree_seen d top b), ap length z);
      inside = subst (AllInside (length cs)) (sym z) (chosen_inside cs (found_of f) q.chosen);
      joint = k.joint;
      gone = k.built.gone;
    }
