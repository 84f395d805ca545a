-- States and trees under a renaming of nodes.
use Rattle.std.proofs.Common.{◌≡◌, ℕ, ◌<◌, ◌≤◌, Bool, true, false, eqb, List, [], ◌∷◌, map, sym, refl, ap, ◌∙◌, subst, arith, eq-eqb, eqb-true}
use native.Mathlib.Decide.{dec_le}
use Rattle.store.specs.declared.node.Node.{Node}
use Rattle.store.specs.Cells.{Cell, shut, readable, mark_of, cell_at}
use Rattle.trees.specs.Trees.{Side, left, right, Tree, leaf, node, beside, inorder, height, Balanced}
use Rattle.trees.specs.Edits.{Frame, frame, labels, Place, place, plug, whole}
use Rattle.trees.specs.Paths.{inside}
use Rattle.store.specs.declared.node.Region.{Region}
use Rattle.runs.specs.States.{State, Cells, Row, row, member, InPool, Free, Spells, Leads, there, by_left, by_right, TreeAt, InTree}
use Rattle.runs.specs.Renamings.{relabel, relabel_path, relabel_place, Renaming, renamed_node, renamed_cell, renamed_row, Renamed}
use Rattle.runs.proofs.Relabels.{relabel_count}

-- two tests that pass together are one
same_test : (b c : Bool) → (b ≡ true → c ≡ true) → (c ≡ true → b ≡ true) → b ≡ c
same_test true true p q = refl
same_test false false p q = refl
same_test true false p q = sym (p refl)
same_test false true p q = q refl

-- TREES

module _ {L M R : Type 0} (f : L → M) where
  pub relabel_order : (t : Tree L R) → inorder (relabel f t) ≡ inorder t
  relabel_order leaf = refl
  relabel_order (node o l x r) = let a = relabel_order l in let b = relabel_order r in cc

  pub relabel_height : (t : Tree L R) → height (relabel f t) ≡ height t
  relabel_height leaf = refl
  relabel_height (node o l x r) = let a = relabel_height l in let b = relabel_height r in cc

  pub relabel_balanced : (t : Tree L R) → Balanced t → Balanced (relabel f t)
  relabel_balanced leaf b = tt
  relabel_balanced (node o l x r) b =
      let d = relabel_count f l in let e = relabel_count f r in
      let h = b.0 in
      (record { left_light = omega arith; right_light = omega arith }, relabel_balanced l b.1, relabel_balanced r b.2)

  relabel_beside : (s : Side) (o : L) (t : Tree L R) (x : R) (u : Tree L R) → relabel f (beside s o t x u) ≡ beside s (f o) (relabel f t) x (relabel f u)
  relabel_beside left o t x u = refl
  relabel_beside right o t x u = refl

  pub relabel_plug : (fs : List (Frame L R)) (t : Tree L R) → plug (relabel_path f fs) (relabel f t) ≡ relabel f (plug fs t)
  relabel_plug [] t = refl
  relabel_plug (frame s o x u ∷ fs) t =
      ap (λ (w : Tree M R). plug (relabel_path f fs) w) (sym (relabel_beside s o t x u)) ∙ relabel_plug fs (beside s o t x u)

  pub relabel_labels : (fs : List (Frame L R)) → labels (relabel_path f fs) ≡ map f (labels fs)
  relabel_labels [] = refl
  relabel_labels (frame s o x u ∷ fs) = ap (λ (ms : List M). f o ∷ ms) (relabel_labels fs)

-- relabelled and back
module _ {L M R : Type 0} (f : L → M) (g : M → L) (back : (o : L) → g (f o) ≡ o) where
  pub relabel_back : (t : Tree L R) → relabel g (relabel f t) ≡ t
  relabel_back leaf = refl
  relabel_back (node o l x r) = let a = relabel_back l in let b = relabel_back r in let c = back o in cc

  path_back : (fs : List (Frame L R)) → relabel_path g (relabel_path f fs) ≡ fs
  path_back [] = refl
  path_back (frame s o x u ∷ fs) = let a = relabel_back u in let b = path_back fs in let c = back o in cc

  pub place_back : (p : Place L R) → relabel_place g (relabel_place f p) ≡ p
  place_back p =
      ap (λ (fs : List (Frame L R)). place fs (relabel g (relabel f p.under))) (path_back p.above) ∙ ap (place p.above) (relabel_back p.under)

pub map_back : {L M : Type 0} (f : L → M) (g : M → L) → ((o : L) → g (f o) ≡ o) → (os : List L) → map g (map f os) ≡ os
map_back f g back [] = refl
map_back f g back (o ∷ os) = let a = map_back f g back os in let c = back o in cc

abbrev with_links : {K : Type 0} → Node K → ℕ → ℕ → Node K
with_links v l r = record { mark = v.mark; left = l; right = r; size = v.size; rows = v.rows; waits = v.waits; low = v.low; high = v.high }

-- THE RENAMING

module _ {N : ℕ} (ρ : Renaming N) where
  pub to_zero : ρ.to 0 ≡ 0
  to_zero = ρ.seats_stay 0 (omega arith)

  pub from_seats : (n : ℕ) → n ≤ 32 → ρ.from n ≡ n
  from_seats n h = ap ρ.from (sym (ρ.seats_stay n h)) ∙ ρ.from_to n

  abbrev pub inverse : Renaming N
  inverse = record {
    to = ρ.from;
    from = ρ.to;
    from_to = ρ.to_from;
    to_from = ρ.from_to;
    seats_stay = from_seats;
    to_nodes = ρ.from_nodes;
    from_nodes = ρ.to_nodes;
  }

  -- what is past a seat stays past it
  pub to_past : (n m : ℕ) → m ≤ 32 → m < n → m < ρ.to n
  to_past n m s h = by_dec (dec_le (ρ.to n) m)
    where
      by_dec : Dec (ρ.to n ≤ m) → m < ρ.to n
      by_dec (no l) = omega arith
      by_dec (yes l) =
          let a : ρ.to n ≤ 32 = omega arith in
          let e : ρ.from (ρ.to n) ≡ ρ.to n = from_seats (ρ.to n) a in
          let d = ρ.from_to n in
          absurd (let f : ⊥ = omega arith in f)

  pub eqb_moves : (q n : ℕ) → eqb q (ρ.to n) ≡ eqb (ρ.from q) n
  eqb_moves q n =
      same_test (eqb q (ρ.to n)) (eqb (ρ.from q) n)
      (λ e. eq-eqb (ρ.from q) n (ap ρ.from (eqb-true q (ρ.to n) e) ∙ ρ.from_to n))
      (λ e. eq-eqb q (ρ.to n) (sym (ρ.to_from q) ∙ ap ρ.to (eqb-true (ρ.from q) n e)))

  pub member_moves : (q : ℕ) (ns : List ℕ) → member q (map ρ.to ns) ≡ member (ρ.from q) ns
  member_moves q [] = refl
  member_moves q (n ∷ ns) = let a = eqb_moves q n in let b = member_moves q ns in cc

  pub member_to : (q : ℕ) (ns : List ℕ) → member (ρ.to q) (map ρ.to ns) ≡ member q ns
  member_to q ns = member_moves (ρ.to q) ns ∙ ap (λ (n : ℕ). member n ns) (ρ.from_to q)

  pub inside_moves : {R : Type 0} (q : ℕ) (t : Tree ℕ R) → inside (eqb q) (relabel ρ.to t) ≡ inside (eqb (ρ.from q)) t
  inside_moves q leaf = refl
  inside_moves q (node n l x r) = let a = eqb_moves q n in let b = inside_moves q l in let c = inside_moves q r in cc

  pub node_back : {K : Type 0} (v : Node K) → renamed_node ρ.from (renamed_node ρ.to v) ≡ v
  node_back v =
      ap (λ (l : ℕ). with_links v l (ρ.from (ρ.to v.right))) (ρ.from_to v.left) ∙ ap (with_links v v.left) (ρ.from_to v.right)

  pub cell_back : {K : Type 0} (c : Cell K) → renamed_cell ρ.from (renamed_cell ρ.to c) ≡ c
  cell_back (shut m) = refl
  cell_back (readable v) = ap readable (node_back v)

  pub row_back : (w : Row) → renamed_row ρ.from (renamed_row ρ.to w) ≡ w
  row_back w = ap (λ (p : ℕ). row w.stage p w.steps) (ρ.from_to w.place)

  -- a renaming goes back
  pub renamed_back : {K : Type 0} (x y : State (Cells K)) → Renamed ρ x y → Renamed inverse y x
  renamed_back x y r = record {
    has_nodes = r.as_many;
    as_many = r.has_nodes;
    nodes = λ n.
        sym (cell_back (cell_at x.memory (ρ.from n))) ∙ ap (renamed_cell ρ.from) (sym (r.nodes (ρ.from n)) ∙ ap (cell_at y.memory) (ρ.to_from n));
    root = sym (ρ.from_to x.root) ∙ ap ρ.from (sym r.root);
    pending = sym (map_back ρ.to ρ.from ρ.from_to x.pending) ∙ ap (map ρ.from) (sym r.pending);
    rows = sym (map_back (renamed_row ρ.to) (renamed_row ρ.from) row_back x.rows) ∙ ap (map (renamed_row ρ.from)) (sym r.rows);
  }

-- CELLS SPELL THE RENAMED TREE

module _ {K : Type 0} {N : ℕ} (ρ : Renaming N) (x y : State (Cells K)) (r : Renamed ρ x y) where
  -- what node n is after the renaming, from what it was
  pub read_to : (n : ℕ) (v : Node K) → cell_at x.memory n ≡ readable v → cell_at y.memory (ρ.to n) ≡ readable (renamed_node ρ.to v)
  read_to n v e = r.nodes n ∙ ap (renamed_cell ρ.to) e

  renamed_mark : (c : Cell K) → mark_of (renamed_cell ρ.to c) ≡ mark_of c
  renamed_mark (shut m) = refl
  renamed_mark (readable v) = refl

  pub mark_to : (n : ℕ) → mark_of (cell_at y.memory (ρ.to n)) ≡ mark_of (cell_at x.memory n)
  mark_to n = ap mark_of (r.nodes n) ∙ renamed_mark (cell_at x.memory n)

  pub pool_to : (n : ℕ) → InPool x.memory n → InPool y.memory (ρ.to n)
  pool_to n p =
      let a = p.inside in let b = r.has_nodes in let c = r.as_many in
      let d : n ≤ N = omega arith in
      let e = ρ.to_nodes n d in
      record { past_seats = to_past ρ n 32 (omega arith) p.past_seats; inside = omega arith }

  pub free_to : (n : ℕ) → Free x.memory n → Free y.memory (ρ.to n)
  free_to n h = record { in_pool = pool_to n h.in_pool; mark_zero = mark_to n ∙ h.mark_zero }

  spells_to :
      (ps : List ℕ) (a : ℕ) (t : Tree ℕ (Region K)) → Spells x.memory ps a t → Spells y.memory (map ρ.to ps) (ρ.to a) (relabel ρ.to t)
  spells_to ps a leaf s = ap ρ.to s ∙ to_zero ρ
  spells_to ps a (node n l z k) s =
      let c = relabel_count ρ.to l in
      let d = relabel_count ρ.to k in (
        renamed_node ρ.to s.0,
        ap ρ.to s.1,
        record {
          in_pool = pool_to n s.2.in_pool;
          can_be_read = read_to n s.0 s.2.can_be_read;
          mark_one = s.2.mark_one;
          the_region = s.2.the_region;
          waits_for_none = s.2.waits_for_none;
          counted = λ e. let h = s.2.counted (sym (member_to ρ n ps) ∙ e) in omega arith;
        },
        spells_to ps s.0.left l s.3,
        spells_to ps s.0.right k s.4,
      )

  pub tree_to : (p : Place ℕ (Region K)) → TreeAt x p → TreeAt y (relabel_place ρ.to p)
  tree_to p t =
      let S : List ℕ → ℕ → Tree ℕ (Region K) → Type 0 = λ ps a u. Spells y.memory ps a u in
      let a : S (map ρ.to x.pending) (ρ.to x.root) (relabel ρ.to (whole p)) = spells_to x.pending x.root (whole p) t.spelled in
      let b : S y.pending (ρ.to x.root) (relabel ρ.to (whole p)) = subst (λ (ps : List ℕ). S ps (ρ.to x.root) (relabel ρ.to (whole p))) (sym r.pending) a in
      let c : S y.pending y.root (relabel ρ.to (whole p)) = subst (λ (n : ℕ). S y.pending n (relabel ρ.to (whole p))) (sym r.root) b in
      record {
        spelled = subst (λ (u : Tree ℕ (Region K)). S y.pending y.root u) (sym (relabel_plug ρ.to p.above p.under)) c;
        path_pending = r.pending ∙ ap (map ρ.to) t.path_pending ∙ sym (relabel_labels ρ.to p.above);
      }

  leads_to : (q a : ℕ) → Leads x.memory q a → Leads y.memory (ρ.to q) (ρ.to a)
  leads_to q a (there h) = there (to_past ρ q 0 (omega arith) h)
  leads_to q a (by_left _ v h c k) = by_left (ρ.to a) (renamed_node ρ.to v) (to_past ρ a 0 (omega arith) h) (read_to a v c) (leads_to q v.left k)
  leads_to q a (by_right _ v h c k) = by_right (ρ.to a) (renamed_node ρ.to v) (to_past ρ a 0 (omega arith) h) (read_to a v c) (leads_to q v.right k)

  pub in_tree_to : (q : ℕ) → InTree x q → InTree y (ρ.to q)
  in_tree_to q h = subst (λ (a : ℕ). Leads y.memory (ρ.to q) a) (sym r.root) (leads_to q x.root h)
