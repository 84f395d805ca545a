-- A state has one tree, and its nodes are those that links lead to.
use Rattle.std.proofs.Common.{◌≡◌, ℕ, zero, suc, ◌+◌, ◌≤◌, Bool, true, false, cond, eqb, ◌⊎◌, List, [], ◌∷◌, ◌++◌, sym, refl, ap, ◌∙◌, subst, inl, inr, arith, eq-eqb, eqb-true}
use Rattle.store.specs.declared.node.Node.{Node}
use Rattle.store.specs.Cells.{readable, cell_at}
use Rattle.trees.specs.Trees.{Tree, leaf, node, inorder}
use Rattle.trees.specs.Edits.{whole}
use Rattle.trees.specs.Paths.{inside, In}
use Rattle.store.specs.Nodes.{region_of}
use Rattle.store.specs.declared.node.Region.{Region}
use Rattle.runs.specs.States.{Cells, InPool, Spells, Leads, there, by_left, by_right}
use Rattle.runs.specs.Teeth.{OneTree, Among}

pub split_in : (b : Bool) (a c : ℕ) → 1 ≤ cond b 1 0 + (a + c) → (b ≡ true) ⊎ ((1 ≤ a) ⊎ (1 ≤ c))
split_in true a c h = inl refl
split_in false zero c h = inr (inr (omega arith))
split_in false (suc a) c h = inr (inl (omega arith))

among_append : {A : Type 0} (x : A) (xs ys : List A) → Among x (xs ++ ys) → Among x xs ⊎ Among x ys
among_append x [] ys h = inr h
among_append x (y ∷ xs) ys (inl e) = inl (inl e)
among_append x (y ∷ xs) ys (inr h) = elim (among_append x xs ys h) [ inl i ↦ inl (inr i) | inr i ↦ inr i ]

module _ {K : Type 0} (cs : Cells K) (pending : List ℕ) where
  same_node : (n m : ℕ) (v w : Node K) → n ≡ m → cell_at cs n ≡ readable v → cell_at cs m ≡ readable w → v ≡ w
  same_node n m v w e c d = cc

  pub same_tree : (a b : ℕ) (t u : Tree ℕ (Region K)) → a ≡ b → Spells cs pending a t → Spells cs pending b u → t ≡ u
  same_tree a b leaf leaf e p q = refl
  same_tree a b leaf (node n l x r) e p q = let h = q.2.in_pool.past_seats in let d = q.1 in absurd (let f : ⊥ = omega arith in f)
  same_tree a b (node n l x r) leaf e p q = let h = p.2.in_pool.past_seats in let d = p.1 in absurd (let f : ⊥ = omega arith in f)
  same_tree a b (node n l x r) (node m l' x' r') e p q =
      let d : n ≡ m = sym p.1 ∙ e ∙ q.1 in
      let v : p.0 ≡ q.0 = same_node n m p.0 q.0 d p.2.can_be_read q.2.can_be_read in
      let y = p.2.the_region in
      let y' = q.2.the_region in
      let z : x ≡ x' = cc in
      let f = same_tree p.0.left q.0.left l l' (ap (λ (w : Node K). w.left) v) p.3 q.3 in
      let g = same_tree p.0.right q.0.right r r' (ap (λ (w : Node K). w.right) v) p.4 q.4 in
      cc

  -- links lead to the nodes of the tree that is spelled, and to no others
  pub leads_in : (a b q : ℕ) (t : Tree ℕ (Region K)) → Leads cs q a → a ≡ b → Spells cs pending b t → In q t
  leads_in a b q leaf (there h) e s = let f : ⊥ = omega arith in absurd f
  leads_in a b q leaf (by_left _ v h c k) e s = let f : ⊥ = omega arith in absurd f
  leads_in a b q leaf (by_right _ v h c k) e s = let f : ⊥ = omega arith in absurd f
  leads_in a b q (node n l x r) (there h) e s = let d : eqb q n ≡ true = eq-eqb q n (e ∙ s.1) in rw d (omega arith)
  leads_in a b q (node n l x r) (by_left _ v h c k) e s =
      let d : v ≡ s.0 = same_node a n v s.0 (e ∙ s.1) c s.2.can_be_read in
      let i = leads_in v.left s.0.left q l k (ap (λ (w : Node K). w.left) d) s.3 in omega arith
  leads_in a b q (node n l x r) (by_right _ v h c k) e s =
      let d : v ≡ s.0 = same_node a n v s.0 (e ∙ s.1) c s.2.can_be_read in
      let i = leads_in v.right s.0.right q r k (ap (λ (w : Node K). w.right) d) s.4 in omega arith

  pub in_leads : (a q : ℕ) (t : Tree ℕ (Region K)) → Spells cs pending a t → In q t → Leads cs q a
  in_leads a q leaf s h = let f : ⊥ = omega arith in absurd f
  in_leads a q (node n l x r) s h =
      let p = s.2.in_pool.past_seats in
      let one : 1 ≤ n = omega arith in
      subst (λ (j : ℕ). Leads cs q j) (sym s.1)
      (elim (split_in (eqb q n) (inside (eqb q) l) (inside (eqb q) r) h) [
        | inl e ↦ let d : q ≡ n = eqb-true q n e in subst (λ (j : ℕ). Leads cs j n) (sym d) (there one)
        | inr (inl i) ↦ by_left n s.0 one s.2.can_be_read (in_leads s.0.left q l s.3 i)
        | inr (inr i) ↦ by_right n s.0 one s.2.can_be_read (in_leads s.0.right q r s.4 i)
      ])

  -- each region of the tree that is spelled is in a node of it
  pub spelled_has :
      (a : ℕ) (t : Tree ℕ (Region K)) (x : Region K) → Spells cs pending a t → Among x (inorder t) →
      (n : ℕ) × (v : Node K) × Leads cs n a × InPool cs n × (cell_at cs n ≡ readable v) × (v.mark ≡ 1) × (region_of v ≡ x)
  spelled_has a leaf x s h = absurd h
  spelled_has a (node n l y r) x s h =
      let p = s.2.in_pool.past_seats in
      let one : 1 ≤ n = omega arith in
      let back : (q : ℕ) → Leads cs q n → Leads cs q a = λ q k. subst (λ (j : ℕ). Leads cs q j) (sym s.1) k in
      elim (among_append x (inorder l) (y ∷ inorder r) h) [
        | inl i ↦
            let w = spelled_has s.0.left l x s.3 i in
            (w.0, w.1, back w.0 (by_left n s.0 one s.2.can_be_read w.2), w.3, w.4, w.5, w.6)
        | inr (inl e) ↦ (n, s.0, back n (there one), s.2.in_pool, s.2.can_be_read, s.2.mark_one, s.2.the_region ∙ e)
        | inr (inr i) ↦
            let w = spelled_has s.0.right r x s.4 i in
            (w.0, w.1, back w.0 (by_right n s.0 one s.2.can_be_read w.2), w.3, w.4, w.5, w.6)
      ]

pub one_tree : (K : Type 0) → OneTree K
one_tree K = record {
  same = λ z p q s t. same_tree z.memory z.pending z.root z.root (whole p) (whole q) refl s.spelled t.spelled;
  leads_to_its_nodes = λ z p q s h. leads_in z.memory z.pending z.root z.root q (whole p) h refl s.spelled;
  leads_to_all_of_them = λ z p q s h. in_leads z.memory z.pending z.root q (whole p) s.spelled h;
}
