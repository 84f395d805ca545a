-- A grown tree that was put into the store spells the tree that it stands for.
use Rattle.std.proofs.Common.{◌≡◌, ℕ, suc, ◌+◌, ◌<◌, ◌≤◌, cond, eqb, ◌⊎◌, List, [], ◌∷◌, ◌++◌, length, sym, refl, ap, ◌∙◌, subst, inl, inr, arith}
use Rattle.std.proofs.lemmas.Bool.{cases_eq}
use Rattle.store.specs.declared.node.Region.{Region}
use Rattle.store.specs.declared.fault.Function.TheVariants.{Mark}
use Rattle.store.specs.Cells.{readable, cell_at, mark_of, mark_answer}
use Rattle.store.specs.Fits.{ShutFree}
use Rattle.store.proofs.Insides.{numbered, answered, answered_is}
use Rattle.trees.specs.Trees.{Tree, leaf, node, count}
use Rattle.trees.specs.Rotations.{Label, kept as stays, new}
use Rattle.trees.specs.Paths.{times, MadeAs, new_at}
use Rattle.trees.proofs.Numbers.{made_weight}
use Rattle.drafts.specs.declared.link.Numbered.{Numbered}
use Rattle.drafts.specs.Grown.{Grown, kept, built}
use Rattle.search.specs.Firsts.{first, later}
use Rattle.search.specs.Frees.{Apart, FreeNode, Chosen}
use Rattle.commits.specs.Commits.{Writes, new_node, news, placed}
use Rattle.commits.proofs.Committing.{rest_length, writes_length}
use Rattle.runs.specs.States.{Cells, Free, Spells}
use Rattle.lifting.specs.Lifts.{leaves as written, keeps, AllRead, Stands}
use Rattle.placing.specs.Placings.{PutDown}
use Rattle.placing.proofs.Spellings.{fewer, at_itself, node_as}
use Rattle.placing.proofs.Writings.{one_same, none_other, ApartWrites, unwritten, all_held, written_append, read_front, read_rest, AllUsed, used_append, all_read}

-- NUMBERS THAT MAY BE TAKEN

apart_times : (n : ℕ) (ns : List ℕ) → Apart n ns → times (eqb n) ns ≡ 0
apart_times n [] a = refl
apart_times n (m ∷ ms) a = omega (arith, none_other n m a.0, apart_times n ms a.1)

first_later : (m : ℕ) (ns : List ℕ) → 0 < length ns → times (eqb m) ns ≡ cond (eqb m (first ns)) 1 0 + times (eqb m) (later ns)
first_later m [] h = absurd (omega arith)
first_later m (n ∷ ns) h = refl

module _ {K : Type 0} where
  free_from : (cs : Cells K) (n : ℕ) → FreeNode cs n → Free cs n
  unfolding mark_answer
  free_from cs n (past, e) =
      let i = numbered n (length cs) (answered Mark n (length cs) _ 0 (sym e)) in
      record {
        in_pool = record { past_seats = omega arith; inside = i.1 };
        mark_zero = sym (answered_is Mark n (length cs) 0 (mark_of (cell_at cs n)) (sym e));
      }

  pub chosen_once : (cs : Cells K) (ns : List ℕ) → Chosen cs ns → (m : ℕ) → times (eqb m) ns ≤ 1
  chosen_once cs [] c m = omega arith
  chosen_once cs (n ∷ ns) c m = by_same (cases_eq m n) (chosen_once cs ns c.1.1 m)
    where
      by_same : (m ≡ n) ⊎ (m ≡ n → ⊥) → times (eqb m) ns ≤ 1 → times (eqb m) (n ∷ ns) ≤ 1
      by_same (inl e) ih = omega (arith, one_same m n e, subst (λ i. times (eqb i) ns ≡ 0) (sym e) (apart_times n ns c.1.0))
      by_same (inr e) ih = omega (arith, none_other m n e)

  pub chosen_free : (cs : Cells K) (ns : List ℕ) → Chosen cs ns → (m : ℕ) → (times (eqb m) ns ≡ 0) ⊎ Free cs m
  chosen_free cs [] c m = inl refl
  chosen_free cs (n ∷ ns) c m = by_same (cases_eq m n) (chosen_free cs ns c.1.1 m)
    where
      by_same : (m ≡ n) ⊎ (m ≡ n → ⊥) → (times (eqb m) ns ≡ 0) ⊎ Free cs m → (times (eqb m) (n ∷ ns) ≡ 0) ⊎ Free cs m
      by_same (inl e) ih = inr (subst (Free cs) (sym e) (free_from cs n c.0))
      by_same (inr e) (inl z) = inl (omega (arith, none_other m n e))
      by_same (inr e) (inr f) = inr f

  chosen_later : (cs : Cells K) (ns : List ℕ) → Chosen cs ns → Chosen cs (later ns)
  chosen_later cs [] c = tt
  chosen_later cs (n ∷ ns) c = c.1.1

  chosen_rest : (cs : Cells K) (g : Grown K) (ns : List ℕ) → Chosen cs ns → Chosen cs (placed g ns).rest
  unfolding placed
  chosen_rest cs (kept m) ns c = c
  chosen_rest cs (built s x l r) ns c = chosen_later cs _ (chosen_rest cs r _ (chosen_rest cs l ns c))

  first_free : (cs : Cells K) (ns : List ℕ) → 0 < length ns → Chosen cs ns → Free cs (first ns)
  first_free cs [] h c = absurd (omega arith)
  first_free cs (n ∷ ns) h c = free_from cs n c.0

  -- each number that is taken is written once, and the others are left
  taken_step : (m : ℕ) (us vs : List (Numbered K)) (w : Numbered K) → written m (us ++ (vs ++ (w ∷ []))) ≡ written m us + (written m vs + cond (eqb m w.number) 1 0)
  taken_step m us vs w = omega (arith, written_append m us (vs ++ (w ∷ [])), written_append m vs (w ∷ []))

  pub taken : (m : ℕ) (g : Grown K) (ns : List ℕ) → news g ≤ length ns → written m (placed g ns).writes + times (eqb m) (placed g ns).rest ≡ times (eqb m) ns
  unfolding placed news
  taken m (kept n) ns h = omega arith
  taken m (built s x l r) ns h =
      let a = rest_length l ns (omega arith) in
      let b = rest_length r (placed l ns).rest (omega arith) in
      let c = taken m l ns (omega arith) in
      let d = taken m r (placed l ns).rest (omega arith) in
      let e = first_later m (placed r (placed l ns).rest).rest (omega arith) in
      let f = taken_step m (placed l ns).writes (placed r (placed l ns).rest).writes (record { number = first (placed r (placed l ns).rest).rest; node = new_node s x (placed l ns).top (placed r (placed l ns).rest).top }) in
      omega arith

  pub placed_used : (g : Grown K) (ns : List ℕ) → AllUsed (placed g ns).writes
  unfolding placed
  placed_used (kept n) ns = tt
  placed_used (built s x l r) ns =
      used_append (placed l ns).writes _ (placed_used l ns) (used_append (placed r (placed l ns).rest).writes _ (placed_used r _) ((λ e. omega arith), tt))

  -- a number of mark 0 is kept in no tree that stands
  pub free_keeps : (cs : Cells K) (g : Grown K) (t : Tree Label (Region K)) → Stands cs g t → (m : ℕ) → mark_of (cell_at cs m) ≡ 0 → keeps m t ≡ 0
  free_keeps cs (kept n) leaf s m z = refl
  free_keeps cs (kept n) (node (stays k) l x r) s m z =
      let v = s.0 in
      let q : mark_of (cell_at cs k) ≡ 1 = ap mark_of s.2.can_be_read ∙ s.2.mark_one in
      let h = none_other m k (λ e. let o : ◌≡◌ {A = ℕ} 0 1 = sym z ∙ (ap (λ (i : ℕ). mark_of (cell_at cs i)) e ∙ q) in omega arith) in
      omega (arith, h, free_keeps cs (kept v.left) l s.3 m z, free_keeps cs (kept v.right) r s.4 m z)
  free_keeps cs (kept n) (node new l x r) s m z = absurd s
  free_keeps cs (built k y g h) leaf s m z = absurd s
  free_keeps cs (built k y g h) (node (stays n) l x r) s m z = absurd s
  free_keeps cs (built k y g h) (node new l x r) s m z = omega (arith, free_keeps cs g l s.2 m z, free_keeps cs h r s.3 m z)

  -- THE TREE, in cells ds that hold what was written and what is kept

  -- the numbers of its new nodes are those that were written
  pub record Laid (cs ds : Cells K) (top : ℕ) (ws : List (Numbered K)) (t : Tree Label (Region K)) : Type 0 where
    pub tree : Tree ℕ (Region K)
    pub spelled : Spells ds [] top tree
    pub made : MadeAs (Free cs) t tree
    pub numbers : (m : ℕ) → new_at m t tree ≡ written m ws

  module _ (cs ds : Cells K) (long : length ds ≡ length cs) where
    abbrev SameKept : Tree Label (Region K) → Type 0
    SameKept t = (m : ℕ) → (keeps m t ≡ 0) ⊎ (cell_at ds m ≡ cell_at cs m)

    both_counts : (l r : Tree Label (Region K)) (l' r' : Tree ℕ (Region K)) → MadeAs (Free cs) l l' → MadeAs (Free cs) r r' → suc (count l + count r) ≡ suc (count l' + count r')
    both_counts l r l' r' a b = omega (arith, made_weight (Free cs) l l' a, made_weight (Free cs) r r' b)

    kept_laid : (n : ℕ) (t : Tree Label (Region K)) → SameKept t → Stands cs (kept n) t → Laid cs ds n [] t
    kept_laid n leaf f s = record { tree = leaf; spelled = s; made = tt; numbers = λ m. refl }
    kept_laid n (node (stays k) l x r) f s =
        let v = s.0 in
        let ok = s.2 in
        let a = kept_laid v.left l (λ m. fewer _ _ (omega arith) (f m)) s.3 in
        let b = kept_laid v.right r (λ m. fewer _ _ (omega arith) (f m)) s.4 in
        record {
          tree = node k a.tree x b.tree;
          spelled = (
            v,
            s.1,
            node_as cs ds [] [] k x _ _ v v long (at_itself k _ (f k) ∙ ok.can_be_read) refl refl refl
                (λ z. ok.counted refl ∙ both_counts l r a.tree b.tree a.made b.made) ok,
            a.spelled,
            b.spelled,
          );
          made = (refl, refl, a.made, b.made);
          numbers = λ m. omega (arith, a.numbers m, b.numbers m);
        }
    kept_laid n (node new l x r) f s = absurd s

    new_laid :
        (s : ℕ) (y x : Region K) (p q : ℕ) (us vs : List (Numbered K)) (n : ℕ) (l r : Tree Label (Region K)) →
        Laid cs ds p us l → Laid cs ds q vs r → Free cs n → cell_at ds n ≡ readable (new_node s y p q) → s ≡ suc (count l + count r) → y ≡ x →
        Laid cs ds n (us ++ (vs ++ (record { number = n; node = new_node s y p q } ∷ []))) (node new l x r)
    new_laid s y x p q us vs n l r a b free here size same =
        let v = new_node s y p q in
        record {
          tree = node n a.tree x b.tree;
          spelled = (
            v,
            refl,
            record {
              in_pool = let i = free.in_pool.inside in record { past_seats = free.in_pool.past_seats; inside = omega arith };
              can_be_read = here;
              mark_one = refl;
              the_region = same;
              waits_for_none = refl;
              counted = λ z. size ∙ both_counts l r a.tree b.tree a.made b.made;
            },
            a.spelled,
            b.spelled,
          );
          made = (free, refl, a.made, b.made);
          numbers = λ m. omega (arith, a.numbers m, b.numbers m, taken_step m us vs (record { number = n; node = v }));
        }

    pub laid : (g : Grown K) (t : Tree Label (Region K)) (ns : List ℕ) → Stands cs g t → Chosen cs ns → news g ≤ length ns → AllRead ds (placed g ns).writes → SameKept t → Laid cs ds (placed g ns).top (placed g ns).writes t
    unfolding placed news
    laid (kept n) t ns s c h held f = kept_laid n t f s
    laid (built k y g h) leaf ns s c few held f = absurd s
    laid (built k y g h) (node (stays n) l x r) ns s c few held f = absurd s
    laid (built k y g h) (node new l x r) ns s c few held f =
        let us = (placed g ns).writes in
        let ms = (placed g ns).rest in
        let vs = (placed h ms).writes in
        let a = rest_length g ns (omega arith) in
        let b = rest_length h ms (omega arith) in
        let end = read_rest ds vs _ (read_rest ds us _ held) in
        new_laid k y x (placed g ns).top (placed h ms).top us vs (first (placed h ms).rest) l r
        (laid g l ns s.2 c (omega arith) (read_front ds us _ held) (λ m. fewer _ _ (omega arith) (f m)))
        (laid h r ms s.3 (chosen_rest cs g ns c) (omega arith) (read_front ds vs _ (read_rest ds us _ held)) (λ m. fewer _ _ (omega arith) (f m)))
        (first_free cs (placed h ms).rest (omega arith) (chosen_rest cs h ms (chosen_rest cs g ns c))) end.0 s.0 s.1

  -- the writes of a tree are to nodes that were free, none twice
  pub placed_free : (cs : Cells K) (g : Grown K) (ns : List ℕ) → Chosen cs ns → news g ≤ length ns → (m : ℕ) → (written m (placed g ns).writes ≡ 0) ⊎ Free cs m
  placed_free cs g ns c few m = fewer _ _ (omega (arith, taken m g ns few)) (chosen_free cs ns c m)

  placed_apart : (cs : Cells K) (g : Grown K) (ns : List ℕ) → Chosen cs ns → news g ≤ length ns → ApartWrites cs (placed g ns).writes
  placed_apart cs g ns c few = record {
    once = λ m. omega (arith, taken m g ns few, chosen_once cs ns c m);
    in_pool = λ m. elim (placed_free cs g ns c few m) [ inl z ↦ inl z | inr f ↦ inr f.in_pool ];
  }

  pub places_spell :
      (cs ds : Cells K) (g : Grown K) (t : Tree Label (Region K)) (ns : List ℕ) →
      Stands cs g t → Chosen cs ns → news g ≤ length ns → Writes cs (placed g ns).writes ds → ShutFree ds →
      PutDown cs ds ns (placed g ns).top t
  places_spell cs ds g t ns s c few w free =
      let ws = (placed g ns).writes in
      let apart = placed_apart cs g ns c few in
      let long = writes_length cs ds ws w in
      let put = laid cs ds long g t ns s c few (all_read ds ws free (placed_used g ns) (all_held cs ds ws w apart)) (λ m. by_free m (placed_free cs g ns c few m)) in
      record {
        tree = put.tree;
        spelled = put.spelled;
        made = put.made;
        once = λ m. omega (arith, put.numbers m, apart.once m);
        chosen = λ m. omega (arith, put.numbers m, taken m g ns few);
        as_many = long;
        others = λ m z. unwritten cs ds ws w apart m (sym (put.numbers m) ∙ z);
      }
    where
      by_free : (m : ℕ) → (written m (placed g ns).writes ≡ 0) ⊎ Free cs m → (keeps m t ≡ 0) ⊎ (cell_at ds m ≡ cell_at cs m)
      by_free m (inl z) = inr (unwritten cs ds (placed g ns).writes w (placed_apart cs g ns c few) m z)
      by_free m (inr f) = inl (free_keeps cs g t s m f.mark_zero)
