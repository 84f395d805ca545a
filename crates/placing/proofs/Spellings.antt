-- What cells spell, where some of them have changed: a tree stays spelled if its own cells stay.
use Rattle.std.proofs.Common.{◌≡◌, ℕ, zero, suc, ◌+◌, ◌≤◌, Bool, true, false, cond, T, eqb, ◌⊎◌, List, [], length, sym, refl, ap, ◌∙◌, subst, inl, inr, arith}
use Rattle.std.proofs.lemmas.Bool.{cases_eq}
use Rattle.store.specs.declared.node.Node.{Node}
use Rattle.store.specs.declared.node.Region.{Region}
use Rattle.store.specs.Nodes.{region_of}
use Rattle.store.specs.Cells.{Cell, readable, cell_at, mark_of}
use Rattle.trees.specs.Trees.{Tree, leaf, node}
use Rattle.trees.specs.Paths.{inside}
use Rattle.runs.specs.States.{Cells, InPool, NodeInTree, Spells, member}
use Rattle.placing.proofs.Writings.{one_same, none_other}

pub some_or_none : (k : ℕ) → (k ≡ 0) ⊎ (1 ≤ k)
some_or_none zero = inl refl
some_or_none (suc k) = inr (omega arith)

pub fact_of_true : (b : Bool) → b ≡ true → T b
fact_of_true b e = subst T (sym e) tt

pub true_of_fact : (b : Bool) → T b → b ≡ true
true_of_fact true h = refl
true_of_fact false h = absurd h

-- what holds where a number is counted holds where fewer are
pub fewer : {P : Type 0} (a b : ℕ) → a ≤ b → (b ≡ 0) ⊎ P → (a ≡ 0) ⊎ P
fewer a b h (inl e) = inl (omega arith)
fewer a b h (inr p) = inr p

pub at_itself : {P : Type 0} (n k : ℕ) → (cond (eqb n n) 1 0 + k ≡ 0) ⊎ P → P
at_itself n k (inl e) = absurd (omega (arith, one_same n n refl))
at_itself n k (inr p) = p

module _ {K : Type 0} where
  -- a node that is in the tree as another is, but for its cells, its pending nodes and its count
  pub node_as :
      (cs ds : Cells K) (pend pend' : List ℕ) (n : ℕ) (x : Region K) (many many' : ℕ) (v v' : Node K) → length ds ≡ length cs →
      cell_at ds n ≡ readable v' → v'.mark ≡ v.mark → region_of v' ≡ region_of v → v'.waits ≡ v.waits → (member n pend' ≡ false → v'.size ≡ many') →
      NodeInTree cs pend n x many v → NodeInTree ds pend' n x many' v'
  node_as cs ds pend pend' n x many many' v v' long e a b c d ok = record {
    in_pool = let p = ok.in_pool.inside in record { past_seats = ok.in_pool.past_seats; inside = omega arith };
    can_be_read = e;
    mark_one = a ∙ ok.mark_one;
    the_region = b ∙ ok.the_region;
    waits_for_none = c ∙ ok.waits_for_none;
    counted = d;
  }

  pub same_node : (v v' : Node K) (c : Cell K) → c ≡ readable v → c ≡ readable v' → v ≡ v'
  same_node v v' c a b = cc

  -- a number of a mark other than 1 is in no tree that is spelled
  pub marked_spells : (cs : Cells K) (pend : List ℕ) (link : ℕ) (t : Tree ℕ (Region K)) → Spells cs pend link t → (m : ℕ) → (mark_of (cell_at cs m) ≡ 1 → ⊥) → inside (eqb m) t ≡ 0
  marked_spells cs pend link leaf s m z = refl
  marked_spells cs pend link (node n l x r) s m z =
      let v = s.0 in
      let q : mark_of (cell_at cs n) ≡ 1 = ap mark_of s.2.can_be_read ∙ s.2.mark_one in
      let h = none_other m n (λ e. z (ap (λ (i : ℕ). mark_of (cell_at cs i)) e ∙ q)) in
      omega (arith, h, marked_spells cs pend v.left l s.3 m z, marked_spells cs pend v.right r s.4 m z)

  pub free_spells : (cs : Cells K) (pend : List ℕ) (link : ℕ) (t : Tree ℕ (Region K)) → Spells cs pend link t → (m : ℕ) → mark_of (cell_at cs m) ≡ 0 → inside (eqb m) t ≡ 0
  free_spells cs pend link t s m z = marked_spells cs pend link t s m (λ e. omega arith)

  -- every node of a tree that is spelled is one of the pool
  pub spells_pool : (cs : Cells K) (pend : List ℕ) (link : ℕ) (t : Tree ℕ (Region K)) → Spells cs pend link t → (m : ℕ) → (inside (eqb m) t ≡ 0) ⊎ InPool cs m
  spells_pool cs pend link leaf s m = inl refl
  spells_pool cs pend link (node n l x r) s m =
      together (cases_eq m n) (spells_pool cs pend s.0.left l s.3 m) (spells_pool cs pend s.0.right r s.4 m)
    where
      together : (m ≡ n) ⊎ (m ≡ n → ⊥) → (inside (eqb m) l ≡ 0) ⊎ InPool cs m → (inside (eqb m) r ≡ 0) ⊎ InPool cs m → (inside (eqb m) (node n l x r) ≡ 0) ⊎ InPool cs m
      together (inl e) a b = inr (subst (InPool cs) (sym e) s.2.in_pool)
      together (inr e) (inr p) b = inr p
      together (inr e) (inl a) (inr p) = inr p
      together (inr e) (inl a) (inl b) = inl (omega (arith, none_other m n e))

  -- no seat is in a tree that is spelled
  pub not_seats : (cs : Cells K) (pend : List ℕ) (link : ℕ) (t : Tree ℕ (Region K)) → Spells cs pend link t → (m : ℕ) → m ≤ 32 → inside (eqb m) t ≡ 0
  not_seats cs pend link t s m h = by_pool (spells_pool cs pend link t s m)
    where
      by_pool : (inside (eqb m) t ≡ 0) ⊎ InPool cs m → inside (eqb m) t ≡ 0
      by_pool (inl z) = z
      by_pool (inr p) = let past = p.past_seats in absurd (omega arith)

  -- with more nodes pending
  pub weaken : (cs : Cells K) (pend : List ℕ) (link : ℕ) (t : Tree ℕ (Region K)) → Spells cs [] link t → Spells cs pend link t
  weaken cs pend link leaf s = s
  weaken cs pend link (node n l x r) s =
      let v = s.0 in
      let ok = s.2 in (
        v,
        s.1,
        node_as cs cs [] pend n x _ _ v v refl ok.can_be_read refl refl refl (λ z. ok.counted refl) ok,
        weaken cs pend v.left l s.3,
        weaken cs pend v.right r s.4,
      )

  -- the node m has its cell as it was, and was not pending if it is not
  pub record Stays (cs ds : Cells K) (pend pend' : List ℕ) (m : ℕ) : Type 0 where
    pub cell : cell_at ds m ≡ cell_at cs m
    pub rests : member m pend' ≡ false → member m pend ≡ false

  module _ (cs ds : Cells K) (long : length ds ≡ length cs) (pend pend' : List ℕ) where
    pub node_stays : (n : ℕ) (x : Region K) (many : ℕ) (v : Node K) → Stays cs ds pend pend' n → NodeInTree cs pend n x many v → NodeInTree ds pend' n x many v
    node_stays n x many v s ok =
        node_as cs ds pend pend' n x many many v v long (s.cell ∙ ok.can_be_read) refl refl refl (λ z. ok.counted (s.rests z)) ok

    -- a tree stays spelled if each of its nodes stays
    pub spells_stays : (link : ℕ) (t : Tree ℕ (Region K)) → ((m : ℕ) → (inside (eqb m) t ≡ 0) ⊎ Stays cs ds pend pend' m) → Spells cs pend link t → Spells ds pend' link t
    spells_stays link leaf f s = s
    spells_stays link (node n l x r) f s =
        let v = s.0 in (
          v,
          s.1,
          node_stays n x _ v (at_itself n _ (f n)) s.2,
          spells_stays v.left l (λ m. fewer _ _ (omega arith) (f m)) s.3,
          spells_stays v.right r (λ m. fewer _ _ (omega arith) (f m)) s.4,
        )
