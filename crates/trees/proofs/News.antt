-- How many new nodes an edit makes.
use Rattle.std.proofs.Common.{◌≡◌, ℕ, ◌+◌, ◌*◌, ◌≤◌, List, [], ◌∷◌, refl, ap, arith}
use Rattle.trees.specs.Regions.{Ranges}
use Rattle.trees.specs.Trees.{left, right, Turn, Tree, leaf, node, height, seek}
use Rattle.trees.specs.Rotations.{Label, kept, new, balance}
use Rattle.trees.specs.Edits.{Frame, frame, Place, plug, whole, descend, standing, sprout, least, rebuilt, dropped, with_least, parted, Put, Drop, Split, Advance, advanced}
use Rattle.trees.specs.Paths.{inside}
use Rattle.trees.specs.Theorems.{is_new, FewNew}
use Rattle.trees.proofs.Places.{descend_whole}

module _ {R : Type 0} where
  abbrev news : Tree Label R → ℕ
  news t = inside is_new t

  none_new : (t : Tree ℕ R) → news (standing t) ≡ 0
  none_new leaf = refl
  none_new (node n l x r) = omega (arith, none_new l, none_new r)

  -- three at the most for each node that is balanced
  balance_news : (o : Label) (l : Tree Label R) (x : R) (r : Tree Label R) → news (balance o l x r) ≤ 3 + (news l + news r)
  balance_news o l x r = grind arith

  rebuilt_news :
      (end : R → Tree Label R → Tree Label R) (most : ℕ) → ((x : R) (u : Tree Label R) → news u ≡ 0 → news (end x u) ≤ most) →
      (l : Tree Label R) (x : R) (r : Tree Label R) → news l ≡ 0 → news r ≡ 0 → news (rebuilt end l x r) ≤ 3 * height l + most
  rebuilt_news end most h leaf x r a b = omega (arith, h x r b)
  rebuilt_news end most h (node o c y d) x r a b =
      omega (arith, balance_news new (rebuilt end c y d) x r, rebuilt_news end most h c y d (omega arith) (omega arith))

  dropped_news : (t : Tree Label R) → news t ≡ 0 → height t ≤ 27 → news (dropped t) ≤ 96
  dropped_news leaf e h = omega arith
  dropped_news (node o leaf x r) e h = omega arith
  dropped_news (node o (node p a y b) x leaf) e h = omega arith
  dropped_news (node o (node p a y b) x (node q c z d)) e h =
      omega (
        arith,
        balance_news new (node p a y b) (least c z) (rebuilt (λ y u. u) c z d),
        rebuilt_news (λ y u. u) 0 (λ y u n. omega arith) c z d (omega arith) (omega arith),
      )

  with_least_news : (z : R) (t : Tree Label R) → news t ≡ 0 → height t ≤ 26 → news (with_least z t) ≤ 82
  with_least_news z leaf e h = omega arith
  with_least_news z (node o l x r) e h =
      omega (arith, rebuilt_news (λ y u. balance new (sprout z) y u) 4 (λ y u n. omega (arith, balance_news new (sprout z) y u)) l x r (omega arith) (omega arith))

  parted_news : (lower upper : R → R) (t : Tree Label R) → news t ≡ 0 → height t ≤ 27 → news (parted lower upper t) ≤ 96
  parted_news lower upper leaf e h = omega arith
  parted_news lower upper (node o l x r) e h =
      omega (arith, balance_news new l (lower x) (with_least (upper x) r), with_least_news (upper x) r (omega arith) (omega arith))

  -- what stands under a link is no higher than the whole
  plug_height : (fs : List (Frame ℕ R)) (t : Tree ℕ R) → height t ≤ height (plug fs t)
  plug_height [] t = omega arith
  plug_height (frame left n x u ∷ fs) t = omega (arith, plug_height fs (node n t x u))
  plug_height (frame right n x u ∷ fs) t = omega (arith, plug_height fs (node n u x t))

  standing_height : (t : Tree ℕ R) → height (standing t) ≡ height t
  standing_height leaf = refl
  standing_height (node n l x r) = omega (arith, standing_height l, standing_height r)

  under_low : (turn : R → Turn) (p : Place ℕ R) → p.above ≡ [] → height (whole p) ≤ 27 → height (standing (descend turn [] p.under).under) ≤ 27
  under_low turn p e h =
      let q = descend turn [] p.under in
      let w : height (plug q.above q.under) ≡ height p.under = ap height (descend_whole turn [] p.under) in
      let v : height (whole p) ≡ height p.under = ap (λ (fs : List (Frame ℕ R)). height (plug fs p.under)) e in
      omega (arith, standing_height q.under, plug_height q.above q.under)

  advanced_news : (fs : List (Frame ℕ R)) (t : Tree ℕ R) → news (advanced fs t).grown ≤ 3
  advanced_news [] t = omega (arith, none_new t)
  advanced_news (frame left n x u ∷ fs) t = omega (arith, balance_news (kept n) (standing t) x (standing u), none_new t, none_new u)
  advanced_news (frame right n x u ∷ fs) t = omega (arith, balance_news (kept n) (standing u) x (standing t), none_new t, none_new u)

module _ {K R : Type 0} (g : Ranges K R) where
  pub few_new : FewNew g
  few_new (Put x) p e h = omega arith
  few_new (Drop k) p e h =
      let q = descend (seek g k) [] p.under in
      dropped_news (standing q.under) (none_new q.under) (under_low (seek g k) p e h)
  few_new (Split b lower upper) p e h =
      let q = descend (seek g b) [] p.under in
      parted_news lower upper (standing q.under) (none_new q.under) (under_low (seek g b) p e h)
  few_new Advance p e h = advanced_news p.above p.under
