-- The entries of a draft: what one more entry leaves and makes.
use Rattle.std.proofs.Common.{◌≡◌, ℕ, zero, suc, ◌<◌, ◌≤◌, Bool, true, false, eqb, ◌≢◌, List, [], ◌∷◌, ◌++◌, length, Some, None, Option, sym, refl, ap, ◌∙◌, subst, add-one, length-append, arith}
use Rattle.std.proofs.lemmas.Option.{slice_get_within}
use Rattle.std.proofs.lemmas.Bool.{eqb-true, eq-eqb, ne_eqb}
use Rattle.std.specs.List.{slice_get}
use Rattle.drafts.specs.declared.link.Link.{Link}
use Rattle.drafts.specs.declared.link.Link.TheVariants.{Old, New}
use Rattle.drafts.specs.declared.link.Branch.{Branch}
use Rattle.drafts.specs.declared.draft.Draft.{Draft}
use Rattle.drafts.specs.Grown.{Grown, built}
use Rattle.drafts.specs.Drafts.{height, Stands, grown, fine, at_entry, at_fine, by_place, by_fine, Grew, tree_of, Fine}

entry_before : {X : Type 0} (xs : List X) (k : ℕ) (x : X) → k < length xs → slice_get (xs ++ (x ∷ [])) k ≡ slice_get xs k
entry_before [] k x h = absurd (omega arith)
entry_before (y ∷ xs) zero x h = refl
entry_before (y ∷ xs) (suc k) x h = entry_before xs k x (omega arith)

entry_last : {X : Type 0} (xs : List X) (x : X) → slice_get (xs ++ (x ∷ [])) (length xs) ≡ Some x
entry_last [] x = refl
entry_last (y ∷ xs) x = entry_last xs x

below_by : (t : Bool) (k i : ℕ) (A B : Type 0) → eqb i k ≡ t → (B → i < k) → by_fine t A B → i < suc k
below_by true k i A B e f p = let h = eqb-true i k e in omega arith
below_by false k i A B e f p = let h = f p in omega arith

module _ {K : Type 0} where
  place_same : (b : Bool) (o : Option (Branch K)) (f f' : Link → Grown K) (x x' : Grown K) → ((l : Link) → f l ≡ f' l) → x ≡ x' →
      by_place b (at_entry o f) x ≡ by_place b (at_entry o f') x'
  place_same true None f f' x x' h e = refl
  place_same true (Some b) f f' x x' h e = rw (h b.left, h b.right)
  place_same false o f f' x x' h e = e

  -- a later entry does not matter
  pub grown_longer : (k : ℕ) (es : List (Branch K)) (b : Branch K) (l : Link) → k ≤ length es → grown k (es ++ (b ∷ [])) l ≡ grown k es l
  unfolding grown
  grown_longer k es b (Old n) h = refl
  grown_longer zero es b (New i) h = refl
  grown_longer (suc k) es b (New i) h =
      ap (λ o. by_place (eqb i k) (at_entry o (λ l. grown k (es ++ (b ∷ [])) l)) (grown k (es ++ (b ∷ [])) (New i))) (entry_before es k b (omega arith))
      ∙ place_same (eqb i k) (slice_get es k) _ _ _ _ (λ l. grown_longer k es b l (omega arith)) (grown_longer k es b (New i) (omega arith))

  fine_place : (b : Bool) (o : Option (Branch K)) (f f' : Link → Type 0) (x x' : Type 0) → ((l : Link) → f l → f' l) → (x → x') →
      by_fine b (at_fine o f) x → by_fine b (at_fine o f') x'
  fine_place true None f f' x x' h e p = p
  fine_place true (Some b) f f' x x' h e p = (h b.left p.0, h b.right p.1)
  fine_place false o f f' x x' h e p = e p

  pub fine_longer : (k : ℕ) (es : List (Branch K)) (b : Branch K) (l : Link) → k ≤ length es → fine k es l → fine k (es ++ (b ∷ [])) l
  unfolding fine
  fine_longer k es b (Old n) h p = tt
  fine_longer zero es b (New i) h p = p
  fine_longer (suc k) es b (New i) h p =
      rw (entry_before es k b (omega arith))
      (fine_place (eqb i k) (slice_get es k) _ _ _ _ (λ l q. fine_longer k es b l (omega arith) q) (λ q. fine_longer k es b (New i) (omega arith) q) p)

  -- a link to an entry is below the count
  pub fine_below : (k : ℕ) (es : List (Branch K)) (i : ℕ) → fine k es (New i) → i < k
  unfolding fine
  fine_below zero es i p = absurd p
  fine_below (suc k) es i p = below_by (eqb i k) k i _ _ refl (fine_below k es i) p

  -- one more entry to count
  pub grown_more : (k : ℕ) (es : List (Branch K)) (l : Link) → fine k es l → grown (suc k) es l ≡ grown k es l
  unfolding grown
  grown_more k es (Old n) p = refl
  grown_more k es (New i) p = let h = fine_below k es i p in let ne : i ≢ k = omega arith in rw (ne_eqb i k ne)

  pub fine_more : (k : ℕ) (es : List (Branch K)) (l : Link) → fine k es l → fine (suc k) es l
  unfolding fine
  fine_more k es (Old n) p = tt
  fine_more k es (New i) p = let h = fine_below k es i p in let ne : i ≢ k = omega arith in rw (ne_eqb i k ne) p

  -- the entry that is added
  pub grown_added : (es : List (Branch K)) (b : Branch K) →
      grown (suc (length es)) (es ++ (b ∷ [])) (New (length es)) ≡ built b.size b.region (grown (length es) es b.left) (grown (length es) es b.right)
  unfolding grown
  grown_added es b =
      rw (eq-eqb (length es) (length es) refl, entry_last es b, grown_longer (length es) es b b.left (omega arith), grown_longer (length es) es b b.right (omega arith))

  pub fine_added : (es : List (Branch K)) (b : Branch K) → fine (length es) es b.left → fine (length es) es b.right →
      fine (suc (length es)) (es ++ (b ∷ [])) (New (length es))
  unfolding fine
  fine_added es b p q =
      rw (eq-eqb (length es) (length es) refl, entry_last es b) (fine_longer (length es) es b b.left (omega arith) p, fine_longer (length es) es b b.right (omega arith) q)

  one_longer : (es : List (Branch K)) (b : Branch K) → length (es ++ (b ∷ [])) ≡ suc (length es)
  one_longer es b = length-append es (b ∷ []) ∙ add-one _

  pub grew_added : (d d' : Draft K) (b : Branch K) → d'.made ≡ d.made ++ (b ∷ []) → d'.gone ≡ d.gone → Grew 1 0 d d'
  grew_added d d' b e f = record {
    few = rw (e, one_longer d.made b) (omega arith);
    few_out = rw f (omega arith);
    stays = λ l p. rw (e, one_longer d.made b) (fine_more _ _ l (fine_longer _ d.made b l (omega arith) p));
    same = λ l p. rw (e, one_longer d.made b) (grown_more _ _ l (fine_longer _ d.made b l (omega arith) p) ∙ grown_longer _ d.made b l (omega arith));
  }

  -- the entry at a link
  pub record Entry (k : ℕ) (es : List (Branch K)) (i : ℕ) (t : Grown K) : Type 0 where
    pub branch : Branch K
    pub at : slice_get es i ≡ Some branch
    pub tree : t ≡ built branch.size branch.region (grown k es branch.left) (grown k es branch.right)
    pub left : fine k es branch.left
    pub right : fine k es branch.right
    pub low_left : fine i es branch.left
    pub low_right : fine i es branch.right

  entry_by : (k i : ℕ) (es : List (Branch K)) (t : Bool) (o : Option (Branch K)) → eqb i k ≡ t → slice_get es k ≡ o →
      by_fine t (at_fine o (λ l. fine k es l)) (fine k es (New i)) → (fine k es (New i) → Entry k es i (grown k es (New i))) →
      Entry (suc k) es i (by_place t (at_entry o (λ l. grown k es l)) (grown k es (New i)))
  entry_by k i es true None e f p rec = absurd p
  entry_by k i es true (Some b) e f p rec = record {
    branch = b;
    at = rw (eqb-true i k e) f;
    tree = rw (grown_more k es b.left p.0, grown_more k es b.right p.1);
    left = fine_more k es b.left p.0;
    right = fine_more k es b.right p.1;
    low_left = rw (eqb-true i k e) p.0;
    low_right = rw (eqb-true i k e) p.1;
  }
  entry_by k i es false o e f p rec =
      let r = rec p in
      record {
        branch = r.branch;
        at = r.at;
        tree = rw (grown_more k es r.branch.left r.left, grown_more k es r.branch.right r.right) r.tree;
        left = fine_more k es r.branch.left r.left;
        right = fine_more k es r.branch.right r.right;
        low_left = r.low_left;
        low_right = r.low_right;
      }

  pub entry_at : (k : ℕ) (es : List (Branch K)) (i : ℕ) → fine k es (New i) → Entry k es i (grown k es (New i))
  unfolding fine grown
  entry_at zero es i p = absurd p
  entry_at (suc k) es i p = entry_by k i es (eqb i k) (slice_get es k) refl refl p (entry_at k es i)

  pub fine_within : (k : ℕ) (es : List (Branch K)) (i : ℕ) → fine k es (New i) → i < length es
  fine_within k es i p = let r = entry_at k es i p in slice_get_within es i r.branch r.at

  pub fine_height : (k : ℕ) (es : List (Branch K)) (l : Link) → fine k es l → height l ≤ k
  fine_height k es (Old n) p = omega arith
  fine_height k es (New i) p = let h = fine_below k es i p in omega arith

  pub stands_added : (d d' : Draft K) (b : Branch K) → d'.made ≡ d.made ++ (b ∷ []) → d'.gone ≡ d.gone → Fine d b.left → Fine d b.right → Stands d' (length d.made) b
  stands_added d d' b e f p q =
      let g = grew_added d d' b e f in
      let t : tree_of d' (New (length d.made)) ≡ built b.size b.region (tree_of d b.left) (tree_of d b.right) =
      rw (e, one_longer d.made b) (grown_added d.made b) in
      record {
        link = rw (e, one_longer d.made b) (fine_added d.made b p q);
        left = g.stays b.left p;
        right = g.stays b.right q;
        tree = t ∙ ap (λ x. built b.size b.region x (tree_of d b.right)) (sym (g.same b.left p))
            ∙ ap (λ x. built b.size b.region (tree_of d' b.left) x) (sym (g.same b.right q));
      }

  -- what the code reads at a place
  pub record Reads (d : Draft K) (i : ℕ) (b : Branch K) : Type 0 where
    pub stands : Stands d i b
    pub lower : (height b.left ≤ i) × (height b.right ≤ i)

  pub reads_at : (d : Draft K) (i : ℕ) (b : Branch K) → Fine d (New i) → slice_get d.made i ≡ Some b → Reads d i b
  reads_at d i b p e =
      let r = entry_at (length d.made) d.made i p in
      let q : r.branch ≡ b = let h = r.at in cc in
      subst (Reads d i) q (record {
        stands = record { link = p; left = r.left; right = r.right; tree = r.tree };
        lower = (fine_height i d.made r.branch.left r.low_left, fine_height i d.made r.branch.right r.low_right);
      })
