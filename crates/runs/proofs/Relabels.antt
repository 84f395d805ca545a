-- What an edit makes of a tree does not depend on the numbers of its nodes.
use Rattle.std.proofs.Common.{◌≡◌, ℕ, ◌*◌, Bool, true, false, ltb, List, [], ◌∷◌, refl, ap, ◌∙◌}
use Rattle.trees.specs.Regions.{Ranges}
use Rattle.trees.specs.Trees.{Side, left, right, Turn, to_left, here, to_right, at_turn, Tree, leaf, node, count, weight, seek}
use Rattle.trees.specs.Rotations.{Label, kept, new, single, double, rotate_by, rotate, too_heavy, balance_by, balance}
use Rattle.trees.specs.Edits.{Frame, frame, Place, standing, made_at, descend, settled, sprout, least, rebuilt, joined, dropped, with_least, parted, Put, Drop, Split, Advance, advanced}
use Rattle.runs.specs.Renamings.{relabel, relabel_path, relabel_place, renamed_label, renamed_made, EditsRename}

pub relabel_count : {L M R : Type 0} (f : L → M) (t : Tree L R) → count (relabel f t) ≡ count t
relabel_count f leaf = refl
relabel_count f (node o l x r) = let a = relabel_count f l in let b = relabel_count f r in cc

module _ {R : Type 0} (f : ℕ → ℕ) where
  -- the tree with its kept nodes renamed
  abbrev re : Tree Label R → Tree Label R
  re t = relabel (renamed_label f) t

  single_as :
      (s : Side) (light : Tree Label R) (x : R) (inner : Tree Label R) (y : R) (outer : Tree Label R) →
      single s (re light) x (re inner) y (re outer) ≡ re (single s light x inner y outer)
  single_as left light x inner y outer = refl
  single_as right light x inner y outer = refl

  double_as :
      (s : Side) (light : Tree Label R) (x : R) (inner : Tree Label R) (y : R) (outer : Tree Label R) →
      double s (re light) x (re inner) y (re outer) ≡ re (double s light x inner y outer)
  double_as s light x leaf y outer = single_as s light x leaf y outer
  double_as left light x (node o a z b) y outer = refl
  double_as right light x (node o a z b) y outer = refl

  rotate_by_as :
      (t : Bool) (s : Side) (light : Tree Label R) (x : R) (inner : Tree Label R) (y : R) (outer : Tree Label R) →
      rotate_by t s (re light) x (re inner) y (re outer) ≡ re (rotate_by t s light x inner y outer)
  rotate_by_as true s light x inner y outer = single_as s light x inner y outer
  rotate_by_as false s light x inner y outer = double_as s light x inner y outer

  lighter : (a b : Tree Label R) → ltb (weight (re a)) (2 * weight (re b)) ≡ ltb (weight a) (2 * weight b)
  lighter a b = let d = relabel_count (renamed_label f) a in let e = relabel_count (renamed_label f) b in cc

  heavier : (a b : Tree Label R) → too_heavy (re a) (re b) ≡ too_heavy a b
  heavier a b = let d = relabel_count (renamed_label f) a in let e = relabel_count (renamed_label f) b in cc

  rotate_as : (s : Side) (light : Tree Label R) (x : R) (heavy : Tree Label R) → rotate s (re light) x (re heavy) ≡ re (rotate s light x heavy)
  rotate_as left light x leaf = refl
  rotate_as right light x leaf = refl
  rotate_as left light x (node o a y b) =
      ap (λ (t : Bool). rotate_by t left (re light) x (re a) y (re b)) (lighter a b) ∙ rotate_by_as (ltb (weight a) (2 * weight b)) left light x a y b
  rotate_as right light x (node o a y b) =
      ap (λ (t : Bool). rotate_by t right (re light) x (re b) y (re a)) (lighter b a) ∙ rotate_by_as (ltb (weight b) (2 * weight a)) right light x b y a

  balance_by_as :
      (c d : Bool) (o : Label) (l : Tree Label R) (x : R) (r : Tree Label R) →
      balance_by c d (renamed_label f o) (re l) x (re r) ≡ re (balance_by c d o l x r)
  balance_by_as true d o l x r = rotate_as left l x r
  balance_by_as false true o l x r = rotate_as right r x l
  balance_by_as false false o l x r = refl

  balance_as : (o : Label) (l : Tree Label R) (x : R) (r : Tree Label R) → balance (renamed_label f o) (re l) x (re r) ≡ re (balance o l x r)
  balance_as o l x r =
      ap (λ (c : Bool). balance_by c (too_heavy (re l) (re r)) (renamed_label f o) (re l) x (re r)) (heavier r l) ∙
      ap (λ (d : Bool). balance_by (too_heavy r l) d (renamed_label f o) (re l) x (re r)) (heavier l r) ∙
      balance_by_as (too_heavy r l) (too_heavy l r) o l x r

  -- DROP AND SPLIT

  least_as : (t : Tree Label R) (x : R) → least (re t) x ≡ least t x
  least_as leaf x = refl
  least_as (node o a y b) x = least_as a y

  rebuilt_as :
      (end : R → Tree Label R → Tree Label R) → ((y : R) (u : Tree Label R) → end y (re u) ≡ re (end y u)) →
      (t : Tree Label R) (x : R) (r : Tree Label R) → rebuilt end (re t) x (re r) ≡ re (rebuilt end t x r)
  rebuilt_as end h leaf x r = h x r
  rebuilt_as end h (node o a y b) x r =
      ap (λ (t : Tree Label R). balance new t x (re r)) (rebuilt_as end h a y b) ∙ balance_as new (rebuilt end a y b) x r

  joined_as : (l r : Tree Label R) → joined (re l) (re r) ≡ re (joined l r)
  joined_as leaf r = refl
  joined_as (node o a x b) leaf = refl
  joined_as (node o a x b) (node p c z d) =
      ap (λ (y : R). balance new (re (node o a x b)) y (rebuilt (λ w u. u) (re c) z (re d))) (least_as c z) ∙
      ap (λ (t : Tree Label R). balance new (re (node o a x b)) (least c z) t) (rebuilt_as (λ w u. u) (λ y u. refl) c z d) ∙
      balance_as new (node o a x b) (least c z) (rebuilt (λ w u. u) c z d)

  dropped_as : (t : Tree Label R) → dropped (re t) ≡ re (dropped t)
  dropped_as leaf = refl
  dropped_as (node o l x r) = joined_as l r

  with_least_as : (z : R) (t : Tree Label R) → with_least z (re t) ≡ re (with_least z t)
  with_least_as z leaf = refl
  with_least_as z (node o l x r) = rebuilt_as (λ y u. balance new (sprout z) y u) (λ y u. balance_as new (sprout z) y u) l x r

  parted_as : (lower upper : R → R) (t : Tree Label R) → parted lower upper (re t) ≡ re (parted lower upper t)
  parted_as lower upper leaf = refl
  parted_as lower upper (node o l x r) =
      ap (λ (t : Tree Label R). balance new (re l) (lower x) t) (with_least_as (upper x) r) ∙ balance_as new l (lower x) (with_least (upper x) r)

  -- PLACES

  pub standing_as : (t : Tree ℕ R) → standing (relabel f t) ≡ re (standing t)
  standing_as leaf = refl
  standing_as (node n l x r) = let a = standing_as l in let b = standing_as r in cc

  by_turn :
      (t : Turn) (a b c : Place ℕ R) (a' b' c' : Place ℕ R) → a' ≡ relabel_place f a → b' ≡ relabel_place f b → c' ≡ relabel_place f c →
      at_turn t a' b' c' ≡ relabel_place f (at_turn t a b c)
  by_turn to_left a b c a' b' c' p q r = p
  by_turn here a b c a' b' c' p q r = q
  by_turn to_right a b c a' b' c' p q r = r

  pub descend_as :
      (turn : R → Turn) (fs : List (Frame ℕ R)) (t : Tree ℕ R) → descend turn (relabel_path f fs) (relabel f t) ≡ relabel_place f (descend turn fs t)
  descend_as turn fs leaf = refl
  descend_as turn fs (node n l x r) =
      by_turn (turn x) _ _ _ _ _ _ (descend_as turn (frame left n x r ∷ fs) l) refl (descend_as turn (frame right n x l ∷ fs) r)

  made_as :
      (turn : R → Turn) (t : Tree ℕ R) (make : Tree Label R → Tree Label R) → ((u : Tree Label R) → make (re u) ≡ re (make u)) →
      made_at (descend turn [] (relabel f t)) make ≡ renamed_made f (made_at (descend turn [] t) make)
  made_as turn t make h =
      ap (λ (p : Place ℕ R). made_at p make) (descend_as turn [] t) ∙
      ap (λ (u : Tree Label R). record { above = relabel_path f (descend turn [] t).above; grown = u })
      (ap make (standing_as (descend turn [] t).under) ∙ h (standing (descend turn [] t).under))

  settled_as : (s : Side) (n : ℕ) (x : R) (u t : Tree ℕ R) →
      settled (frame s (kept (f n)) x (standing (relabel f u))) (standing (relabel f t)) ≡ re (settled (frame s (kept n) x (standing u)) (standing t))
  settled_as left n x u t = rw (standing_as u, standing_as t) (balance_as (kept n) (standing t) x (standing u))
  settled_as right n x u t = rw (standing_as u, standing_as t) (balance_as (kept n) (standing u) x (standing t))

  advanced_as : (fs : List (Frame ℕ R)) (t : Tree ℕ R) → advanced (relabel_path f fs) (relabel f t) ≡ renamed_made f (advanced fs t)
  advanced_as [] t = ap (λ (u : Tree Label R). record { above = []; grown = u }) (standing_as t)
  advanced_as (frame s n x u ∷ fs) t = ap (λ (w : Tree Label R). record { above = relabel_path f fs; grown = w }) (settled_as s n x u t)

pub edits_rename : {K R : Type 0} (g : Ranges K R) → EditsRename g
edits_rename g f (Put x) p = made_as f (seek g (g.low x)) p.under (λ t. sprout x) (λ u. refl)
edits_rename g f (Drop k) p = made_as f (seek g k) p.under dropped (dropped_as f)
edits_rename g f (Split b lower upper) p = made_as f (seek g b) p.under (parted lower upper) (parted_as f lower upper)
edits_rename g f Advance p = advanced_as f p.above p.under
