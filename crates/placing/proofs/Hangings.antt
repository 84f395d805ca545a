-- A commit leaves the tree with one link changed.
use Rattle.std.proofs.Common.{◌≡◌, ℕ, ◌+◌, ◌≤◌, true, false, T, eqb, ◌⊎◌, List, [], ◌∷◌, ◌++◌, map, length, sym, refl, ap, ◌∙◌, subst, inl, inr, arith, Some, None, Option}
use Rattle.std.proofs.lemmas.Bool.{both_ways, cases_eq, cases_Bool, eq-eqb, ne_eqb, or_left, or_right}
use Rattle.store.specs.declared.node.Node.{Node}
use Rattle.store.specs.declared.node.Region.{Region}
use Rattle.store.specs.Cells.{readable, cell_at, mark_of}
use Rattle.store.specs.Fits.{ShutFree}
use Rattle.trees.specs.Trees.{Side, Tree, leaf, node, beside}
use Rattle.trees.specs.Rotations.{Label, kept as stays, new}
use Rattle.trees.specs.Edits.{Frame, frame, labels, plug}
use Rattle.trees.specs.Paths.{inside, In, Distinct, MadeAs, new_at}
use Rattle.trees.proofs.Loyal.{ins}
use Rattle.trees.proofs.Numbers.{made_inside}
use Rattle.drafts.specs.declared.link.Numbered.{Numbered}
use Rattle.drafts.specs.declared.link.Lean.{Lean}
use Rattle.drafts.specs.declared.link.Lean.TheVariants.{Right, Left}
use Rattle.drafts.specs.Grown.{Grown}
use Rattle.search.specs.Frees.{Chosen}
use Rattle.commits.specs.declared.writes.Joint.{Joint}
use Rattle.commits.specs.Commits.{Writes, Placing, news, placed, with_link, hung, root_after, leaving, left_behind, committed}
use Rattle.commits.proofs.Committing.{writes_length}
use Rattle.runs.specs.States.{Cells, InPool, Free, Spells, member}
use Rattle.runs.specs.Teeth.{Among}
use Rattle.lifting.specs.Lifts.{leaves, leaves as written, keeps}
use Rattle.placing.specs.Placings.{lean_of, Joins, Drafted, CommittedWell}
use Rattle.placing.proofs.Writings.{one_same, none_other, Holds, holds_readable, holds_mark, ApartWrites, unwritten, all_held, AllHeld, held_front, held_back, written_append, all_read}
use Rattle.placing.proofs.Spellings.{some_or_none, fact_of_true, true_of_fact, fewer, same_node, free_spells, spells_pool, not_seats, weaken, Stays}
use Rattle.placing.proofs.Layings.{chosen_once, taken, placed_used, placed_free, free_keeps, Laid, laid}
use Rattle.placing.proofs.Frames.{around, plug_inside, label_around, over_path, led}

-- a node of a tree that was made is one that it keeps, or a new one
keeps_ins : {R : Type 0} (m : ℕ) (t : Tree Label R) → keeps m t ≡ ins m t
keeps_ins m leaf = refl
keeps_ins m (node (stays n) l x r) = omega (arith, keeps_ins m l, keeps_ins m r)
keeps_ins m (node new l x r) = omega (arith, keeps_ins m l, keeps_ins m r)

pub made_counts : {R : Type 0} (F : ℕ → Type 0) (m : ℕ) (t : Tree Label R) (u : Tree ℕ R) → MadeAs F t u → inside (eqb m) u ≡ keeps m t + new_at m t u
made_counts F m t u made = omega (arith, keeps_ins m t, made_inside F m t u made)

module _ {K : Type 0} where
  -- THE NODES THAT LEAVE

  gone_written : (m sessions : ℕ) (gone : List (Numbered K)) → written m (map (left_behind sessions) gone) ≡ leaves m gone
  gone_written m sessions [] = refl
  gone_written m sessions (p ∷ ps) = omega (arith, gone_written m sessions ps)

  pub among_leaves : (p : Numbered K) (gone : List (Numbered K)) → Among p gone → 1 ≤ leaves p.number gone
  among_leaves p [] h = absurd h
  among_leaves p (q ∷ qs) (inl e) = omega (arith, one_same p.number q.number (sym (ap (λ (w : Numbered K). w.number) e)))
  among_leaves p (q ∷ qs) (inr h) = omega (arith, among_leaves p qs h)

  pub leaves_among : (m : ℕ) (gone : List (Numbered K)) → 1 ≤ leaves m gone → (p : Numbered K) × Among p gone × (p.number ≡ m)
  leaves_among m [] h = absurd (omega arith)
  leaves_among m (q ∷ qs) h = by_same (cases_eq m q.number) (leaves_among m qs)
    where
      by_same : (m ≡ q.number) ⊎ (m ≡ q.number → ⊥) → (1 ≤ leaves m qs → (p : Numbered K) × Among p qs × (p.number ≡ m)) → (p : Numbered K) × Among p (q ∷ qs) × (p.number ≡ m)
      by_same (inl e) ih = (q, inl refl, sym e)
      by_same (inr e) ih = let k = ih (omega (arith, none_other m q.number e)) in (k.0, inr k.1, k.2)

  held_among : (ds : Cells K) (sessions : ℕ) (gone : List (Numbered K)) → AllHeld ds (map (left_behind sessions) gone) → (p : Numbered K) → Among p gone → Holds ds p.number (leaving sessions p.node)
  held_among ds sessions [] h p a = absurd a
  held_among ds sessions (q ∷ qs) h p (inl e) = subst (λ (w : Numbered K). Holds ds w.number (leaving sessions w.node)) e h.0
  held_among ds sessions (q ∷ qs) h p (inr a) = held_among ds sessions qs h.1 p a

  -- THE WRITES OF A COMMIT

  committed_written : (m : ℕ) (j : Option (Joint K)) (p : Placing K) (sessions : ℕ) (gone : List (Numbered K)) → written m (committed j p sessions gone) ≡ written m p.writes + (written m (hung j p.top) + leaves m gone)
  unfolding committed
  committed_written m j p sessions gone =
      let a = written_append m p.writes (hung j p.top ++ map (left_behind sessions) gone) in
      let b = written_append m (hung j p.top) (map (left_behind sessions) gone) in
      omega (arith, gone_written m sessions gone)

  record Held (ds : Cells K) (j : Option (Joint K)) (p : Placing K) (sessions : ℕ) (gone : List (Numbered K)) : Type 0 where
    pub placed_there : AllHeld ds p.writes
    pub hung_there : AllHeld ds (hung j p.top)
    pub left_there : AllHeld ds (map (left_behind sessions) gone)

  committed_held : (ds : Cells K) (j : Option (Joint K)) (p : Placing K) (sessions : ℕ) (gone : List (Numbered K)) → AllHeld ds (committed j p sessions gone) → Held ds j p sessions gone
  unfolding committed
  committed_held ds j p sessions gone h =
      let k = held_back ds p.writes _ h in
      record { placed_there = held_front ds p.writes _ h; hung_there = held_front ds (hung j p.top) _ k; left_there = held_back ds (hung j p.top) _ k }

  hung_around : (cs : Cells K) (fs : List (Frame ℕ (Region K))) (j : Option (Joint K)) (k m : ℕ) → Joins cs fs j → written m (hung j k) ≤ around m fs
  hung_around cs [] None k m e = omega arith
  hung_around cs [] (Some j) k m e = absurd e
  hung_around cs (frame s n x u ∷ fs) None k m e = absurd e
  hung_around cs (frame s n x u ∷ fs) (Some j) k m e = rw e.0 (omega arith)

  module _ (cs ds : Cells K) (pending : List ℕ) (root sessions : ℕ) (fs : List (Frame ℕ (Region K))) (s : Tree ℕ (Region K)) (g : Grown K)
      (t : Tree Label (Region K)) (gone : List (Numbered K)) (j : Option (Joint K)) (ns : List ℕ)
      (d : Drafted cs pending root fs s g t gone) (joins : Joins cs fs j) (chosen : Chosen cs ns) (few : news g ≤ length ns)
      (w : Writes cs (committed j (placed g ns) sessions gone) ds) (free : ShutFree ds) where
    long : length ds ≡ length cs
    long = writes_length cs ds _ w

    -- how often a number was in the tree before
    was : (m : ℕ) → inside (eqb m) s + around m fs ≤ 1
    was m = omega (arith, d.distinct m, plug_inside m fs s)

    free_was : (m : ℕ) → Free cs m → inside (eqb m) s + around m fs ≡ 0
    free_was m f = sym (plug_inside m fs s) ∙ free_spells cs pending root (plug fs s) d.spelled m f.mark_zero

    apart : ApartWrites cs (committed j (placed g ns) sessions gone)
    apart = record { once = λ m. once m (placed_free cs g ns chosen few m); in_pool = λ m. in_pool m (placed_free cs g ns chosen few m) (spells_pool cs pending root (plug fs s) d.spelled m) }
      where
        once : (m : ℕ) → (written m (placed g ns).writes ≡ 0) ⊎ Free cs m → written m (committed j (placed g ns) sessions gone) ≤ 1
        once m (inl z) = omega (arith, committed_written m j (placed g ns) sessions gone, hung_around cs fs j (placed g ns).top m joins, d.same m, was m)
        once m (inr f) = omega (arith, committed_written m j (placed g ns) sessions gone, hung_around cs fs j (placed g ns).top m joins, d.same m, free_was m f, taken m g ns few, chosen_once cs ns chosen m)

        in_pool : (m : ℕ) → (written m (placed g ns).writes ≡ 0) ⊎ Free cs m → (inside (eqb m) (plug fs s) ≡ 0) ⊎ InPool cs m → (written m (committed j (placed g ns) sessions gone) ≡ 0) ⊎ InPool cs m
        in_pool m (inr f) b = inr f.in_pool
        in_pool m (inl z) (inr p) = inr p
        in_pool m (inl z) (inl y) = inl (omega (arith, committed_written m j (placed g ns) sessions gone, hung_around cs fs j (placed g ns).top m joins, d.same m, plug_inside m fs s))

    held : Held ds j (placed g ns) sessions gone
    held = committed_held ds j (placed g ns) sessions gone (all_held cs ds _ w apart)

    -- a cell that the commit did not write
    quiet : (m : ℕ) → written m (placed g ns).writes + (written m (hung j (placed g ns).top) + leaves m gone) ≡ 0 → cell_at ds m ≡ cell_at cs m
    quiet m z = unwritten cs ds _ w apart m (committed_written m j (placed g ns) sessions gone ∙ z)

    put : Laid cs ds (placed g ns).top (placed g ns).writes t
    put = laid cs ds long g t ns d.stands chosen few (all_read ds _ free (placed_used g ns) held.placed_there) (λ m. kept_same m (placed_free cs g ns chosen few m) (some_or_none (keeps m t)))
      where
        kept_same : (m : ℕ) → (written m (placed g ns).writes ≡ 0) ⊎ Free cs m → (keeps m t ≡ 0) ⊎ (1 ≤ keeps m t) → (keeps m t ≡ 0) ⊎ (cell_at ds m ≡ cell_at cs m)
        kept_same m b (inl z) = inl z
        kept_same m (inr f) (inr k) = inl (free_keeps cs g t d.stands m f.mark_zero)
        kept_same m (inl z) (inr k) = inr (quiet m (omega (arith, hung_around cs fs j (placed g ns).top m joins, d.same m, was m)))

    -- how often a number is in the tree after
    is : (m : ℕ) → inside (eqb m) (plug fs put.tree) ≡ keeps m t + written m (placed g ns).writes + around m fs
    is m = omega (arith, plug_inside m fs put.tree, made_counts (Free cs) m t put.tree put.made, put.numbers m)

    -- a number that was in the tree is none of the new ones
    old : (m : ℕ) → 1 ≤ inside (eqb m) s + around m fs → written m (placed g ns).writes ≡ 0
    old m h = by_free (placed_free cs g ns chosen few m)
      where
        by_free : (written m (placed g ns).writes ≡ 0) ⊎ Free cs m → written m (placed g ns).writes ≡ 0
        by_free (inl z) = z
        by_free (inr f) = absurd (omega (arith, free_was m f))

    distinct : Distinct (plug fs put.tree)
    distinct m = by_free (placed_free cs g ns chosen few m)
      where
        by_free : (written m (placed g ns).writes ≡ 0) ⊎ Free cs m → inside (eqb m) (plug fs put.tree) ≤ 1
        by_free (inl z) = omega (arith, is m, d.same m, was m)
        by_free (inr f) = omega (arith, is m, d.same m, free_was m f, taken m g ns few, chosen_once cs ns chosen m)

    -- a node above the link, or beside the way to it, that is not led elsewhere
    above : (m : ℕ) → 1 ≤ around m fs → written m (hung j (placed g ns).top) ≡ 0 → Stays cs ds pending (labels fs) m
    above m h z = record { cell = quiet m (omega (arith, old m (omega arith), d.same m, was m)); rests = λ e. by_pending e (cases_Bool (member m pending)) }
      where
        by_where : member m (labels fs) ≡ false → In m s ⊎ T (member m (labels fs)) → member m pending ≡ false
        by_where e (inl i) = absurd (omega (arith, was m))
        by_where e (inr i) = absurd (both_ways (member m (labels fs)) e (true_of_fact (member m (labels fs)) i))

        by_pending : member m (labels fs) ≡ false → (member m pending ≡ true) ⊎ (member m pending ≡ false) → member m pending ≡ false
        by_pending e (inr f) = f
        by_pending e (inl f) = by_where e (d.pending_where m (fact_of_true (member m pending) f))

    there : (p : Numbered K) → Among p gone → Holds ds p.number (leaving sessions p.node)
    there p a = held_among ds sessions gone held.left_there p a

    abbrev SizeKept : Type 0
    SizeKept = (n : ℕ) (v v' : Node K) → T (member n (labels fs)) → cell_at cs n ≡ readable v → cell_at ds n ≡ readable v' → v'.size ≡ v.size

    left_tree : (p : Numbered K) → 1 ≤ leaves p.number gone → In p.number (plug fs s) × (inside (eqb p.number) (plug fs put.tree) ≡ 0)
    left_tree p h =
        let n = p.number in
        let a = d.same n in
        let b = was n in
        let c = plug_inside n fs s in
        let e = is n in
        let f = old n (omega arith) in
        (omega arith, omega arith)

    other : (m : ℕ) → inside (eqb m) (plug fs s) ≡ 0 → inside (eqb m) (plug fs put.tree) ≡ 0 → cell_at ds m ≡ cell_at cs m
    other m y z = quiet m (omega (arith, hung_around cs fs j (placed g ns).top m joins, d.same m, plug_inside m fs s, is m))

    well : Spells ds (labels fs) (root_after j (placed g ns).top root) (plug fs put.tree) → SizeKept →
        CommittedWell cs ds (root_after j (placed g ns).top root) sessions fs s t gone
    well spelled sizes = record {
      tree = put.tree;
      spelled = spelled;
      made = put.made;
      once = λ m. omega (arith, put.numbers m, taken m g ns few, chosen_once cs ns chosen m);
      distinct = distinct;
      size_kept = sizes;
      left_tree = λ p a. left_tree p (among_leaves p gone a);
      who_left = λ m i o. leaves_among m gone (omega (arith, is m, d.same m, plug_inside m fs s));
      left_waits = λ p a some. holds_readable ds p.number (leaving sessions p.node) free (λ e. omega (arith, rw (ne_eqb sessions 0 some) at e)) (there p a);
      left_free = λ p a none. holds_mark ds p.number (leaving sessions p.node) (there p a) ∙ rw (eq-eqb sessions 0 none);
      others = other;
      seats = λ m h. other m (not_seats cs pending root (plug fs s) d.spelled m h) (not_seats ds (labels fs) _ (plug fs put.tree) spelled m h);
      as_many = long;
    }

  -- UNDER A NODE: the lowest node above the link is led to what was hung there

  link_mark : (l : Lean) (k : ℕ) (v : Node K) → (with_link l k v).mark ≡ v.mark
  link_mark Left k v = refl
  link_mark Right k v = refl

  link_size : (l : Lean) (k : ℕ) (v : Node K) → (with_link l k v).size ≡ v.size
  link_size Left k v = refl
  link_size Right k v = refl

  module _ (cs ds : Cells K) (pending : List ℕ) (root sessions : ℕ) (sd : Side) (n : ℕ) (x : Region K) (u : Tree ℕ (Region K)) (fs : List (Frame ℕ (Region K)))
      (s : Tree ℕ (Region K)) (g : Grown K) (t : Tree Label (Region K)) (gone : List (Numbered K)) (j : Joint K) (ns : List ℕ)
      (d : Drafted cs pending root (frame sd n x u ∷ fs) s g t gone) (joins : Joins cs (frame sd n x u ∷ fs) (Some j)) (chosen : Chosen cs ns) (few : news g ≤ length ns)
      (w : Writes cs (committed (Some j) (placed g ns) sessions gone) ds) (free : ShutFree ds) where
    abbrev path : List (Frame ℕ (Region K))
    path = frame sd n x u ∷ fs

    abbrev Rests : ℕ → Type 0
    Rests = Stays cs ds pending (labels path)

    is_above : (m : ℕ) → 1 ≤ around m path → (m ≡ n → ⊥) → Rests m
    is_above m h far =
        above cs ds pending root sessions path s g t gone (Some j) ns d joins chosen few w free m h
        (omega (arith, none_other m j.above.number (λ e. far (e ∙ joins.0))))

    beyond : (m : ℕ) → (inside (eqb m) u + around m fs ≡ 0) ⊎ Rests m
    beyond m = by_some (some_or_none (inside (eqb m) u + around m fs))
      where
        by_some : (inside (eqb m) u + around m fs ≡ 0) ⊎ (1 ≤ inside (eqb m) u + around m fs) → (inside (eqb m) u + around m fs ≡ 0) ⊎ Rests m
        by_some (inl z) = inl z
        by_some (inr h) =
            let a = was cs ds pending root sessions path s g t gone (Some j) ns d joins chosen few w free m in
            inr (is_above m (omega arith) (λ e. omega (arith, one_same m n e)))

    cell : (v : Node K) → cell_at cs n ≡ readable v → cell_at ds n ≡ readable (with_link (lean_of sd) (placed g ns).top v)
    cell v c =
        let k = (placed g ns).top in
        let h = (held cs ds pending root sessions path s g t gone (Some j) ns d joins chosen few w free).hung_there.0 in
        let a = subst (λ (i : ℕ). Holds ds i (with_link j.side k j.above.node)) joins.0 h in
        let b = subst (λ (i : Lean). Holds ds n (with_link i k j.above.node)) joins.1 a in
        let e = subst (λ (i : Node K). Holds ds n (with_link (lean_of sd) k i)) (same_node j.above.node v (cell_at cs n) joins.2 c) b in
        holds_readable ds n (with_link (lean_of sd) k v) free
        (λ z. omega (
          arith,
          free_spells cs pending root (plug path s) d.spelled n (ap mark_of c ∙ (sym (link_mark (lean_of sd) k v) ∙ z)),
          plug_inside n path s,
          one_same n n refl,
        ))
        e

    size : (m : ℕ) (v v' : Node K) → T (member m (labels path)) → cell_at cs m ≡ readable v → cell_at ds m ≡ readable v' → v'.size ≡ v.size
    size m v v' on c c' = by_same (cases_eq m n)
      where
        by_same : (m ≡ n) ⊎ (m ≡ n → ⊥) → v'.size ≡ v.size
        by_same (inl e) =
            let h = cell v (subst (λ (i : ℕ). cell_at cs i ≡ readable v) e c) in
            ap (λ (i : Node K). i.size) (same_node v' _ (cell_at ds n) (subst (λ (i : ℕ). cell_at ds i ≡ readable v') e c') h) ∙ link_size (lean_of sd) (placed g ns).top v
        by_same (inr far) =
            let h = (is_above m (label_around m path (true_of_fact (member m (labels path)) on)) far).cell in
            ap (λ (i : Node K). i.size) (same_node v' v (cell_at ds m) c' (h ∙ c))

    under : CommittedWell cs ds root sessions path s t gone
    under =
        let long = writes_length cs ds _ w in
        let new-tree = put cs ds pending root sessions path s g t gone (Some j) ns d joins chosen few w free in
        let u' = new-tree.tree in
        let on : member n (labels path) ≡ true = or_left (eqb n n) (member n (labels fs)) (eq-eqb n n refl) in
        well cs ds pending root sessions path s g t gone (Some j) ns d joins chosen few w free
        (over_path cs ds long pending (labels path) fs (beside sd n s x u) (beside sd n u' x u) (λ m e. or_right (eqb m n) (member m (labels fs)) e)
        (λ m. fewer _ _ (omega arith) (beyond m))
        (led cs ds long pending (labels path) sd n x u s u' (placed g ns).top cell on (λ m. fewer _ _ (omega arith) (beyond m))
        (weaken ds (labels path) (placed g ns).top u' new-tree.spelled))
        root d.spelled)
        size

  pub commit_spells :
      (cs ds : Cells K) (pending : List ℕ) (root sessions : ℕ) (fs : List (Frame ℕ (Region K))) (s : Tree ℕ (Region K)) (g : Grown K)
      (t : Tree Label (Region K)) (gone : List (Numbered K)) (j : Option (Joint K)) (ns : List ℕ) →
      Drafted cs pending root fs s g t gone → Joins cs fs j → Chosen cs ns → news g ≤ length ns →
      Writes cs (committed j (placed g ns) sessions gone) ds → ShutFree ds →
      CommittedWell cs ds (root_after j (placed g ns).top root) sessions fs s t gone
  commit_spells cs ds pending root sessions [] s g t gone None ns d joins chosen few w free =
      well cs ds pending root sessions [] s g t gone None ns d joins chosen few w free
      (put cs ds pending root sessions [] s g t gone None ns d joins chosen few w free).spelled
      (λ n v v' on c c'. absurd on)
  commit_spells cs ds pending root sessions [] s g t gone (Some j) ns d joins chosen few w free = absurd joins
  commit_spells cs ds pending root sessions (frame sd n x u ∷ fs) s g t gone None ns d joins chosen few w free = absurd joins
  commit_spells cs ds pending root sessions (frame sd n x u ∷ fs) s g t gone (Some j) ns d joins chosen few w free =
      under cs ds pending root sessions sd n x u fs s g t gone j ns d joins chosen few w free
