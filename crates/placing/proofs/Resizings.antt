-- Setting the size of the lowest pending node leaves the tree, that node pending no more.
use Rattle.std.proofs.Common.{◌≡◌, ℕ, ◌+◌, ◌≤◌, cond, T, eqb, ◌⊎◌, List, [], ◌∷◌, refl, ap, ◌∙◌, subst, inl, inr, arith}
use Rattle.std.proofs.lemmas.Bool.{cases_eq, ne_eqb, or_from}
use Rattle.store.specs.declared.node.Node.{Node}
use Rattle.store.specs.declared.node.Region.{Region}
use Rattle.store.specs.Cells.{readable, cell_at, mark_of}
use Rattle.store.specs.Fits.{ShutFree}
use Rattle.trees.specs.Trees.{Side, Tree, leaf, node, beside, count}
use Rattle.trees.specs.Edits.{Frame, frame, labels, plug, standing}
use Rattle.trees.specs.Paths.{inside, Distinct, new_at}
use Rattle.trees.proofs.Numbers.{made_standing}
use Rattle.drafts.specs.declared.link.Numbered.{Numbered}
use Rattle.commits.specs.Commits.{Writes}
use Rattle.commits.proofs.Committing.{writes_length}
use Rattle.runs.specs.States.{Cells, Free, Spells, member}
use Rattle.lifting.specs.Lifts.{leaves as written}
use Rattle.placing.specs.Placings.{with_size, ResizedWell}
use Rattle.placing.proofs.Writings.{one_same, none_other, holds_readable, ApartWrites, unwritten, all_held}
use Rattle.placing.proofs.Spellings.{some_or_none, true_of_fact, fewer, same_node, free_spells, spells_pool, not_seats, Stays, spells_stays}
use Rattle.placing.proofs.Frames.{around, plug_inside, label_around, near, over_node, over_path}

-- in a tree that stands none is new
none_new : {R : Type 0} (m : ℕ) (t : Tree ℕ R) → new_at m (standing t) t ≡ 0
none_new m leaf = refl
none_new m (node n l x r) = omega (arith, none_new m l, none_new m r)

module _ {K : Type 0} (cs ds : Cells K) (root : ℕ) (fs : List (Frame ℕ (Region K))) (side : Side) (n : ℕ) (x : Region K) (u t : Tree ℕ (Region K)) (v : Node K)
    (sp : Spells cs (n ∷ labels fs) root (plug (frame side n x u ∷ fs) t)) (distinct : Distinct (plug (frame side n x u ∷ fs) t)) (c : cell_at cs n ≡ readable v)
    (w : Writes cs (record { number = n; node = with_size (count (beside side n t x u)) v } ∷ []) ds) (free : ShutFree ds) where
  abbrev top : Tree ℕ (Region K)
  top = beside side n t x u

  abbrev one_write : List (Numbered K)
  one_write = record { number = n; node = with_size (count top) v } ∷ []

  -- how often a number is in the tree
  is : (m : ℕ) → inside (eqb m) (plug fs top) ≡ cond (eqb m n) 1 0 + (inside (eqb m) t + inside (eqb m) u + around m fs)
  is m = omega (arith, plug_inside m (frame side n x u ∷ fs) t)

  apart : ApartWrites cs one_write
  apart = record { once = λ m. once m (cases_eq m n); in_pool = λ m. fewer _ _ (omega (arith, is m)) (spells_pool cs (n ∷ labels fs) root (plug fs top) sp m) }
    where
      once : (m : ℕ) → (m ≡ n) ⊎ (m ≡ n → ⊥) → written m one_write ≤ 1
      once m (inl e) = omega (arith, one_same m n e)
      once m (inr e) = omega (arith, none_other m n e)

  others : (m : ℕ) → (m ≡ n → ⊥) → cell_at ds m ≡ cell_at cs m
  others m far = unwritten cs ds one_write w apart m (omega (arith, none_other m n far))

  not_in_tree : (m : ℕ) → inside (eqb m) (plug fs top) ≡ 0 → cell_at ds m ≡ cell_at cs m
  not_in_tree m z = others m (λ e. omega (arith, is m, one_same m n e))

  cell : cell_at ds n ≡ readable (with_size (count top) v)
  cell =
      holds_readable ds n (with_size (count top) v) free
      (λ z. omega (arith, free_spells cs (n ∷ labels fs) root (plug fs top) sp n (ap mark_of c ∙ z), is n, one_same n n refl))
      (all_held cs ds one_write w apart).0

  -- every other node of the tree stays
  stays : (m : ℕ) → (inside (eqb m) t + inside (eqb m) u + around m fs ≡ 0) ⊎ Stays cs ds (n ∷ labels fs) (labels fs) m
  stays m = by_some (some_or_none (inside (eqb m) t + inside (eqb m) u + around m fs))
    where
      by_some : (inside (eqb m) t + inside (eqb m) u + around m fs ≡ 0) ⊎ (1 ≤ inside (eqb m) t + inside (eqb m) u + around m fs) →
          (inside (eqb m) t + inside (eqb m) u + around m fs ≡ 0) ⊎ Stays cs ds (n ∷ labels fs) (labels fs) m
      by_some (inl z) = inl z
      by_some (inr h) =
          let far : m ≡ n → ⊥ = λ e. omega (arith, is m, distinct m, one_same m n e) in
          inr (record { cell = others m far; rests = λ e. or_from (eqb m n) (member m (labels fs)) (ne_eqb m n far) e })

  spelled : Spells ds (labels fs) root (plug fs top)
  spelled =
      let long = writes_length cs ds _ w in
      over_path cs ds long (n ∷ labels fs) (labels fs) fs top top (λ m e. e) (λ m. fewer _ _ (omega arith) (stays m))
      (over_node cs ds long (n ∷ labels fs) (labels fs) side n x u t t (with_size (count top))
      (λ i. record { mark = refl; region = refl; waits = refl; far_link = refl })
      (λ i e. subst (λ (j : Node K). cell_at ds n ≡ readable (with_size (count top) j)) (same_node v i (cell_at cs n) c e) cell) (λ i z. refl)
      (λ i s. spells_stays cs ds long (n ∷ labels fs) (labels fs) (near side i) t (λ m. fewer _ _ (omega arith) (stays m)) s)
      (λ m. fewer _ _ (omega arith) (stays m)))
      root sp

  size : (m : ℕ) (v₁ v₂ : Node K) → T (member m (labels fs)) → cell_at cs m ≡ readable v₁ → cell_at ds m ≡ readable v₂ → v₂.size ≡ v₁.size
  size m v₁ v₂ on c₁ c₂ =
      let h = label_around m fs (true_of_fact (member m (labels fs)) on) in
      let e = others m (λ e. omega (arith, is m, distinct m, one_same m n e)) in
      ap (λ (i : Node K). i.size) (same_node v₂ v₁ (cell_at ds m) c₂ (e ∙ c₁))

  pub resize_spells : ResizedWell cs ds root n v fs top
  resize_spells = record {
    spelled = spelled;
    resized = cell;
    others = others;
    as_many = writes_length cs ds _ w;
    committed = λ sessions. record {
      tree = top;
      spelled = spelled;
      made = made_standing (Free cs) top;
      once = λ m. omega (arith, none_new m top);
      distinct = distinct;
      size_kept = size;
      left_tree = λ p a. absurd a;
      who_left = λ m i o. absurd (omega arith);
      left_waits = λ p a. absurd a;
      left_free = λ p a. absurd a;
      others = λ m y z. not_in_tree m y;
      seats = λ m h. not_in_tree m (not_seats cs (n ∷ labels fs) root (plug fs top) sp m h);
      as_many = writes_length cs ds _ w;
    };
  }
