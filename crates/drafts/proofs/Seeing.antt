-- Sides of a node: what seeing one, taking one apart and joining two come to.
use Rattle.std.proofs.Common.{◌≡◌, ℕ, ◌+◌, ◌≤◌, Bool, true, false, cond, eqb, List, [], ◌∷◌, ◌++◌, Some, None, Ok, Err, Option, Result, sym, refl, ap, ◌∙◌, subst, length-append, arith}
use Rattle.store.specs.Nodes.{region_of, link_number}
use Rattle.store.specs.declared.node.Node.{Node}
use Rattle.store.specs.declared.fault.StoreFault.{StoreFault}
use Rattle.store.specs.Cells.{Cell, read_answer}
use Rattle.drafts.specs.declared.link.Link.{Link}
use Rattle.drafts.specs.declared.link.Link.TheVariants.{Old, New}
use Rattle.store.specs.declared.node.Region.{Region}
use Rattle.drafts.specs.declared.link.Branch.{Branch}
use Rattle.drafts.specs.declared.link.Numbered.{Numbered}
use Rattle.drafts.specs.declared.link.Side.{Side}
use Rattle.drafts.specs.declared.link.Side.TheVariants.{Empty, Stored, Drafted}
use Rattle.drafts.specs.declared.draft.Draft.{Draft}
use Rattle.drafts.specs.Grown.{Grown, built, Seen, nothing, fresh, tree, weight, opened, without, seen, both_seen, node_seen, joined, size_over}
use Rattle.drafts.specs.Drafts.{grown, fine, tree_of, Fine, gone_of, Grew, Stands, Good, seen_of, link_of, side_weight, seen_told, good_told, both_told, both_good, Joins, Takes}

by_false : {T : Type 0} (b : Bool) (x y : T) → b ≡ false → cond b x y ≡ y
by_false b x y e = rw e

module _ {K : Type 0} where
  pub grew_none : (d : Draft K) → Grew 0 0 d d
  grew_none d = record { few = omega arith; few_out = omega arith; stays = λ l p. p; same = λ l p. refl }

  pub grew_wide : {m j : ℕ} {d d' : Draft K} (m' j' : ℕ) → m ≤ m' → j ≤ j' → Grew m j d d' → Grew m' j' d d'
  grew_wide m' j' h h' q = record { few = omega arith; few_out = omega arith; stays = q.stays; same = q.same }

  pub grew_on : {m j m' j' : ℕ} {d d₁ d₂ : Draft K} → Grew m j d d₁ → Grew m' j' d₁ d₂ → Grew (m + m') (j + j') d d₂
  grew_on p q = record {
    few = omega arith;
    few_out = omega arith;
    stays = λ l f. q.stays l (p.stays l f);
    same = λ l f. q.same l (p.stays l f) ∙ p.same l f;
  }

  pub fine_old : (d : Draft K) (n : ℕ) → Fine d (Old n)
  unfolding fine
  fine_old d n = tt

  -- a side means the same in a later draft
  pub seen_same : {m j : ℕ} {d d' : Draft K} (s : Side K) → Grew m j d d' → Good d s → seen_of d' s ≡ seen_of d s
  unfolding Good seen_of
  seen_same Empty g p = refl
  seen_same (Stored q) g p = refl
  seen_same (Drafted i b) g p = rw (g.same b.left p.left, g.same b.right p.right)

  stands_later : {m j : ℕ} {d d' : Draft K} (i : ℕ) (b : Branch K) → Grew m j d d' → Stands d i b → Stands d' i b
  stands_later {d = d} {d' = d'} i b g p = record {
    link = g.stays (New i) p.link;
    left = g.stays b.left p.left;
    right = g.stays b.right p.right;
    tree = g.same (New i) p.link ∙ p.tree
        ∙ ap (λ x. built b.size b.region x (tree_of d b.right)) (sym (g.same b.left p.left))
        ∙ ap (λ x. built b.size b.region (tree_of d' b.left) x) (sym (g.same b.right p.right));
  }

  pub good_stays : {m j : ℕ} {d d' : Draft K} (s : Side K) → Grew m j d d' → Good d s → Good d' s
  unfolding Good
  good_stays Empty g p = tt
  good_stays (Stored q) g p = tt
  good_stays (Drafted i b) g p = stands_later i b g p

  pub weight_seen : (d : Draft K) (s : Side K) → weight (seen_of d s) ≡ side_weight s
  unfolding weight seen_of
  weight_seen d Empty = refl
  weight_seen d (Stored q) = refl
  weight_seen d (Drafted i b) = refl

  pub tree_seen : (d : Draft K) (s : Side K) → Good d s → tree_of d (link_of s) ≡ tree (seen_of d s)
  unfolding Good seen_of tree grown
  tree_seen d Empty p = refl
  tree_seen d (Stored q) p = refl
  tree_seen d (Drafted i b) p = p.tree

  pub good_fine : (d : Draft K) (s : Side K) → Good d s → Fine d (link_of s)
  unfolding Good
  good_fine d Empty p = fine_old d 0
  good_fine d (Stored q) p = fine_old d q.number
  good_fine d (Drafted i b) p = p.link

  -- one look at a link
  abbrev by_link : List (Cell K) → Option ℕ → Result (Seen K) StoreFault
  by_link cs None = Ok nothing
  by_link cs (Some n) = node_seen n (read_answer cs n)

  seen_at : (d : Draft K) (cs : List (Cell K)) (l : Link) (n : ℕ) → l ≡ Old n → seen cs (tree_of d l) ≡ by_link cs (link_number n)
  unfolding seen grown
  seen_at d cs l n e = rw e (by_test (eqb n 0))
    where
      by_test : (b : Bool) → cond b (Ok nothing) (node_seen n (read_answer cs n)) ≡ by_link cs (cond b None (Some n))
      by_test true = refl
      by_test false = refl

  pub see_none : (d : Draft K) (cs : List (Cell K)) (l : Link) (n : ℕ) → l ≡ Old n → None ≡ link_number n → Ok (seen_of d Empty) ≡ seen cs (tree_of d l)
  unfolding seen_of
  see_none d cs l n e z = ap (by_link cs) z ∙ sym (seen_at d cs l n e)

  pub see_old : (d : Draft K) (cs : List (Cell K)) (l : Link) (n m : ℕ) (v : Node K) → l ≡ Old n → Some m ≡ link_number n → Ok v ≡ read_answer cs m →
      Ok (seen_of d (Stored (record { number = m; node = v }))) ≡ seen cs (tree_of d l)
  unfolding seen_of
  see_old d cs l n m v e z h = ap (node_seen m) h ∙ ap (by_link cs) z ∙ sym (seen_at d cs l n e)

  pub see_refused : (d : Draft K) (cs : List (Cell K)) (l : Link) (n m : ℕ) (e y : StoreFault) (r : Result (Side K) StoreFault) → l ≡ Old n → Some m ≡ link_number n →
      Err e ≡ read_answer cs m → r ≡ Err y → y ≡ e → (seen_told d r ≡ seen cs (tree_of d l)) × good_told d r
  see_refused d cs l n m e y r a z h p q =
      (rw (p, q) (ap (node_seen m) h ∙ ap (by_link cs) z ∙ sym (seen_at d cs l n a)), rw p tt)

  pub see_new : (d : Draft K) (cs : List (Cell K)) (l : Link) (i : ℕ) (b : Branch K) → l ≡ New i → Stands d i b →
      (Ok (seen_of d (Drafted i b)) ≡ seen cs (tree_of d l)) × Good d (Drafted i b)
  unfolding seen seen_of Good
  see_new d cs l i b e p = (rw (e, p.tree), p)

  pub good_none : (d : Draft K) → Good d Empty
  unfolding Good
  good_none d = tt

  pub good_stored : (d : Draft K) (p : Numbered K) → Good d (Stored p)
  unfolding Good
  good_stored d p = tt

  -- two looks, and the exits of each
  pub both_done : (cs : List (Cell K)) (l r : Grown K) (a b : Seen K) → Ok a ≡ seen cs l → Ok b ≡ seen cs r → Ok (a, b) ≡ both_seen cs l r
  both_done cs l r a b e f = rw (← e, ← f) refl

  pub both_first : (d : Draft K) (cs : List (Cell K)) (l r : Grown K) (e y : StoreFault) (t : Result (Side K × Side K) StoreFault) → Err e ≡ seen cs l → t ≡ Err y → y ≡ e →
      (both_told d t ≡ both_seen cs l r) × both_good d t
  both_first d cs l r e y t h p q = (rw (p, q, ← h) refl, rw p tt)

  pub both_second : (d : Draft K) (cs : List (Cell K)) (l r : Grown K) (a : Seen K) (e y : StoreFault) (t : Result (Side K × Side K) StoreFault) → Ok a ≡ seen cs l → Err e ≡ seen cs r →
      t ≡ Err y → y ≡ e → (both_told d t ≡ both_seen cs l r) × both_good d t
  both_second d cs l r a e y t h i p q = (rw (p, q, ← h, ← i) refl, rw p tt)

  -- one more node that leaves
  pub grew_left : (d d' : Draft K) (p : Numbered K) → gone_of d' ≡ gone_of d ++ (p ∷ []) → d'.made ≡ d.made → Grew 0 1 d d'
  grew_left d d' p g h = record {
    few = rw h (omega arith);
    few_out = rw (g, length-append d.gone (p ∷ [])) (omega arith);
    stays = λ l q. rw h q;
    same = λ l q. rw h;
  }

  -- a top taken apart
  pub takes_none : (d : Draft K) (s : Side K) → s ≡ Empty → Takes d d None (seen_of d s)
  unfolding opened without seen_of
  takes_none d s e = record {
    grew = grew_wide 0 1 (omega arith) (omega arith) (grew_none d);
    fine_parts = tt;
    is = rw e;
    gone = rw e;
  }

  abbrev pub branch_of : Node K → Branch K
  branch_of v = record { size = v.size; region = region_of v; left = Old v.left; right = Old v.right }

  pub takes_stored : (d d' : Draft K) (s : Side K) (p : Numbered K) → s ≡ Stored p →
      gone_of d' ≡ gone_of d ++ (p ∷ []) → d'.made ≡ d.made →
      Takes d d' (Some (branch_of p.node)) (seen_of d s)
  unfolding opened without seen_of grown
  takes_stored d d' s p e g h = record {
    grew = grew_left d d' p g h;
    fine_parts = (fine_old d' p.node.left, fine_old d' p.node.right);
    is = rw e;
    gone = rw e g;
  }

  pub takes_drafted : (d : Draft K) (s : Side K) (i : ℕ) (b : Branch K) → s ≡ Drafted i b → Good d s → Takes d d (Some b) (seen_of d s)
  unfolding opened without seen_of Good
  takes_drafted d s i b e p =
      let q : Stands d i b = subst (λ t. Good d t) e p in
      record {
        grew = grew_wide 0 1 (omega arith) (omega arith) (grew_none d);
        fine_parts = (q.left, q.right);
        is = rw e;
        gone = rw e;
      }

  -- a new node over two sides
  pub joins_added : (d d' : Draft K) (x : Region K) (l r : Side K) (b : Branch K) (i m n : ℕ) →
      b.size ≡ size_over m n → m ≡ side_weight l → n ≡ side_weight r → b.region ≡ x → b.left ≡ link_of l → b.right ≡ link_of r → Good d l → Good d r →
      Grew 1 0 d d' → Stands d' i b → gone_of d' ≡ gone_of d → Joins 1 d d' (Drafted i b) (joined x (seen_of d l) (seen_of d r))
  unfolding joined seen_of Good
  joins_added d d' x l r b i m n s y w z a c p q g t h =
      let u : tree_of d' b.left ≡ tree (seen_of d l) = ap (tree_of d') a ∙ g.same (link_of l) (good_fine d l p) ∙ tree_seen d l p in
      let v : tree_of d' b.right ≡ tree (seen_of d r) = ap (tree_of d') c ∙ g.same (link_of r) (good_fine d r q) ∙ tree_seen d r q in
      let k : b.size ≡ size_over (weight (seen_of d l)) (weight (seen_of d r)) = rw (weight_seen d l, weight_seen d r, ← y, ← w) s in
      record { grew = g; good = t; is = fresh_of k z u v; gone = h }
    where
      fresh_of : {a a' : ℕ} {x x' : Region K} {l l' r r' : Grown K} → a ≡ a' → x ≡ x' → l ≡ l' → r ≡ r' → fresh a x l r ≡ fresh a' x' l' r'
      fresh_of e f g h = cc
