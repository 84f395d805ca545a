-- The nodes of the tree that cells spell.
use Rattle.std.proofs.Common.{◌≡◌, ℕ, zero, suc, eqb, ◌⊎◌, List, length, sym, refl, ap, ◌∙◌, subst, inl, inr, arith, eq-eqb, eqb-true}
use Rattle.store.specs.declared.node.Node.{Node}
use Rattle.store.specs.declared.node.Region.{Region}
use Rattle.store.specs.Cells.{readable, mark_of, cell_at}
use Rattle.trees.specs.Trees.{Tree, leaf, node}
use Rattle.trees.specs.Edits.{Place, whole}
use Rattle.trees.specs.Paths.{inside, In}
use Rattle.runs.specs.States.{State, Cells, InPool, Spells, InTree, TreeAt}
use Rattle.runs.proofs.Links.{split_in, leads_in, in_leads}

-- a node is in a tree or not
pub in_or_not : {R : Type 0} (q : ℕ) (t : Tree ℕ R) → In q t ⊎ (In q t → ⊥)
in_or_not q t = by_many (inside (eqb q) t) refl
  where
    by_many : (n : ℕ) → inside (eqb q) t ≡ n → In q t ⊎ (In q t → ⊥)
    by_many zero e = inr (λ h. let f : ⊥ = omega arith in f)
    by_many (suc n) e = inl (omega arith)

module _ {K : Type 0} where
  -- what node q of the tree is
  pub record Live (cs : Cells K) (q : ℕ) : Type 0 where
    pub content : Node K
    pub in_pool : InPool cs q
    pub can_be_read : cell_at cs q ≡ readable content
    pub mark_one : content.mark ≡ 1

  pub spelled_live : (cs : Cells K) (pending : List ℕ) (a q : ℕ) (t : Tree ℕ (Region K)) → Spells cs pending a t → In q t → Live cs q
  spelled_live cs pending a q leaf s h = absurd (let f : ⊥ = omega arith in f)
  spelled_live cs pending a q (node n l x r) s h =
      elim (split_in (eqb q n) (inside (eqb q) l) (inside (eqb q) r) h) [
        | inl e ↦
            subst (Live cs) (sym (eqb-true q n e))
            (record { content = s.0; in_pool = s.2.in_pool; can_be_read = s.2.can_be_read; mark_one = s.2.mark_one })
        | inr (inl i) ↦ spelled_live cs pending s.0.left q l s.3 i
        | inr (inr i) ↦ spelled_live cs pending s.0.right q r s.4 i
      ]

  pub live_mark : (cs : Cells K) (q : ℕ) → Live cs q → mark_of (cell_at cs q) ≡ 1
  live_mark cs q l = ap mark_of l.can_be_read ∙ l.mark_one

  -- other cells spell the same tree if its nodes are the same
  pub spells_same :
      (cs ds : Cells K) (pending : List ℕ) (a : ℕ) (t : Tree ℕ (Region K)) → length ds ≡ length cs →
      ((q : ℕ) → In q t → cell_at ds q ≡ cell_at cs q) → Spells cs pending a t → Spells ds pending a t
  spells_same cs ds pending a leaf m same s = s
  spells_same cs ds pending a (node n l x r) m same s =
      let h = s.2.in_pool.past_seats in
      let i = s.2.in_pool.inside in
      let top : cell_at ds n ≡ cell_at cs n = same n (rw (eq-eqb n n refl) (omega arith)) in (
        s.0,
        s.1,
        record {
          in_pool = record { past_seats = h; inside = omega arith };
          can_be_read = top ∙ s.2.can_be_read;
          mark_one = s.2.mark_one;
          the_region = s.2.the_region;
          waits_for_none = s.2.waits_for_none;
          counted = s.2.counted;
        },
        spells_same cs ds pending s.0.left l m (λ q j. same q (omega arith)) s.3,
        spells_same cs ds pending s.0.right r m (λ q j. same q (omega arith)) s.4,
      )

  -- the tree of a state has just the nodes that links lead to
  module _ (x : State (Cells K)) (p : Place ℕ (Region K)) (t : TreeAt x p) where
    pub tree_live : (q : ℕ) → In q (whole p) → Live x.memory q
    tree_live q h = spelled_live x.memory x.pending x.root q (whole p) t.spelled h

    pub led : (q : ℕ) → InTree x q → In q (whole p)
    led q h = leads_in x.memory x.pending x.root x.root q (whole p) h refl t.spelled

    pub leads : (q : ℕ) → In q (whole p) → InTree x q
    leads q h = in_leads x.memory x.pending x.root q (whole p) t.spelled h

    pub in_tree_or_not : (q : ℕ) → InTree x q ⊎ (InTree x q → ⊥)
    in_tree_or_not q = elim (in_or_not q (whole p)) [ inl h ↦ inl (leads q h) | inr n ↦ inr (λ h. n (led q h)) ]
