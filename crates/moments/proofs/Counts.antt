-- How many nodes of each mark there are, and how many a tree has.
use Rattle.std.proofs.Common.{◌≡◌, ℕ, zero, suc, ◌+◌, ◌-◌, ◌<◌, ◌≤◌, Bool, false, cond, T, eqb, List, [], ◌∷◌, ◌++◌, length, get_or, drop, sym, refl, ap, ◌∙◌, subst, arith, length-append, length-drop, get_or-drop, eq-eqb}
use Rattle.store.specs.Cells.{shut, mark_of, cell_at}
use Rattle.trees.specs.Trees.{Tree, leaf, node, count}
use Rattle.trees.specs.Paths.{times, inside, In, Distinct}
use Rattle.trees.proofs.Ancestors.{times_append}
use Rattle.runs.specs.States.{Cells, member, InPool, with_mark, live_nodes, waiting_nodes, free_nodes, pool}
use Rattle.runs.specs.Runs.{AllDifferent}
use Rattle.runs.proofs.Marks.{is_it, or_first, or_second, or_right, within, At, marked, as_marked, listed, list_it, different_marked}

-- LISTS OF NUMBERS, by how often each is there

times_member : (q : ℕ) (ns : List ℕ) → 1 ≤ times (eqb q) ns → T (member q ns)
times_member q [] h = absurd (let f : ⊥ = omega arith in f)
times_member q (n ∷ ns) h =
    is_it (eqb q n) (T (member q (n ∷ ns))) (λ e. or_first (eqb q n) (member q ns) e)
    (λ e. or_second (eqb q n) (member q ns) (times_member q ns (let a : ◌≡◌ {A = ℕ} (cond (eqb q n) 1 0) 0 = ap (λ (b : Bool). cond b 1 0) e in omega arith)))

member_times : (q : ℕ) (ns : List ℕ) → T (member q ns) → 1 ≤ times (eqb q) ns
member_times q [] h = absurd h
member_times q (n ∷ ns) h =
    is_it (eqb q n) (1 ≤ times (eqb q) (n ∷ ns)) (λ e. rw e (omega arith))
    (λ e. let a = member_times q ns (or_right (eqb q n) (member q ns) h e) in omega arith)

different_times : (ns : List ℕ) → ((q : ℕ) → times (eqb q) ns ≤ 1) → AllDifferent ns
different_times [] h = tt
different_times (n ∷ ns) h = (
  is_it (member n ns) (member n ns ≡ false)
      (λ e.
      let a = member_times n ns (subst T (sym e) tt) in
      let b = h n in
      let c : ◌≡◌ {A = ℕ} (cond (eqb n n) 1 0) 1 = ap (λ (b : Bool). cond b 1 0) (eq-eqb n n refl) in
      absurd (let f : ⊥ = omega arith in f))
      (λ e. e),
  different_times ns (λ q. let a = h q in omega arith),
)

-- THE NUMBERS OF A TREE

module _ {R : Type 0} where
  abbrev numbers : Tree ℕ R → List ℕ
  numbers leaf = []
  numbers (node n l x r) = n ∷ (numbers l ++ numbers r)

  as_many_numbers : (t : Tree ℕ R) → length (numbers t) ≡ count t
  as_many_numbers leaf = refl
  as_many_numbers (node n l x r) =
      let a = as_many_numbers l in let b = as_many_numbers r in let c = length-append (numbers l) (numbers r) in omega arith

  numbers_inside : (q : ℕ) (t : Tree ℕ R) → times (eqb q) (numbers t) ≡ inside (eqb q) t
  numbers_inside q leaf = refl
  numbers_inside q (node n l x r) =
      let a = numbers_inside q l in let b = numbers_inside q r in let c = times_append q (numbers l) (numbers r) in omega arith

  numbers_different : (t : Tree ℕ R) → Distinct t → AllDifferent (numbers t)
  numbers_different t d = different_times (numbers t) (λ q. let a = numbers_inside q t in let b = d q in omega arith)

-- THE POOL

module _ {K : Type 0} (cs : Cells K) where
  abbrev pool_mark : ℕ → ℕ
  pool_mark q = mark_of (cell_at cs q)

  at_pool : (m q : ℕ) → At m 33 (drop 32 cs) q → InPool cs q × (pool_mark q ≡ m)
  at_pool m q a =
      let h = a.from_here in
      let g = a.inside in
      let l = length-drop 32 cs in
      let k : 32 + (q - 33) ≡ q - 1 = omega arith in (
        record { past_seats = omega arith; inside = omega arith },
        sym (ap mark_of (get_or-drop 32 cs (q - 33) (shut 0)) ∙ ap (λ (i : ℕ). mark_of (get_or cs i (shut 0))) k) ∙ a.the_mark,
      )

  pool_at : (m q : ℕ) → InPool cs q → pool_mark q ≡ m → At m 33 (drop 32 cs) q
  pool_at m q p e =
      let h = p.past_seats in
      let g = p.inside in
      let l = length-drop 32 cs in
      let k : 32 + (q - 33) ≡ q - 1 = omega arith in
      record {
        from_here = omega arith;
        inside = omega arith;
        the_mark = ap mark_of (get_or-drop 32 cs (q - 33) (shut 0)) ∙ ap (λ (i : ℕ). mark_of (get_or cs i (shut 0))) k ∙ e;
      }

  -- the pool nodes of a mark
  pub nodes_of : ℕ → List ℕ
  nodes_of m = marked m 33 (drop 32 cs)

  pub nodes_different : (m : ℕ) → AllDifferent (nodes_of m)
  unfolding nodes_of
  nodes_different m = different_marked m 33 (drop 32 cs)

  pub nodes_many : (m : ℕ) → length (nodes_of m) ≡ with_mark m (drop 32 cs)
  unfolding nodes_of
  nodes_many m = as_marked m 33 (drop 32 cs)

  pub node_is : (m q : ℕ) → T (member q (nodes_of m)) → InPool cs q × (pool_mark q ≡ m)
  unfolding nodes_of
  node_is m q h = at_pool m q (listed m 33 (drop 32 cs) q h)

  pub is_node : (m q : ℕ) → InPool cs q → pool_mark q ≡ m → T (member q (nodes_of m))
  unfolding nodes_of
  is_node m q p e = list_it m 33 (drop 32 cs) q (pool_at m q p e)

  -- as many pool nodes have a mark as a tree has nodes, if the tree's nodes are just those
  pub marked_count :
      {R : Type 0} (m : ℕ) (t : Tree ℕ R) → Distinct t → ((q : ℕ) → In q t → InPool cs q × (pool_mark q ≡ m)) →
      ((q : ℕ) → InPool cs q → pool_mark q ≡ m → In q t) → with_mark m (drop 32 cs) ≡ count t
  marked_count m t d from to =
      let a = within (numbers t) (nodes_of m) (numbers_different t d)
      (λ q h. let b = member_times q (numbers t) h in let e = numbers_inside q t in let f = from q (omega arith) in is_node m q f.0 f.1) in
      let b = within (nodes_of m) (numbers t) (nodes_different m)
      (λ q h. let n = node_is m q h in let f = to q n.0 n.1 in let e = numbers_inside q t in times_member q (numbers t) (omega arith)) in
      let e = nodes_many m in
      let f = as_many_numbers t in
      omega arith

-- each cell has one of the marks 0, 1 and 2
one_mark : (m : ℕ) → m ≤ 2 → ◌≡◌ {A = ℕ} (cond (eqb m 1) 1 0 + cond (eqb m 2) 1 0 + cond (eqb m 0) 1 0) 1
one_mark zero h = refl
one_mark (suc zero) h = refl
one_mark (suc (suc zero)) h = refl
one_mark (suc (suc (suc m))) h = absurd (let f : ⊥ = omega arith in f)

all_marks :
    {K : Type 0} (cs : Cells K) → ((i : ℕ) → i < length cs → mark_of (get_or cs i (shut 0)) ≤ 2) →
    with_mark 1 cs + with_mark 2 cs + with_mark 0 cs ≡ length cs
all_marks [] h = refl
all_marks (c ∷ cs) h =
    let a = all_marks cs (λ i l. h (suc i) (omega arith)) in
    let b = one_mark (mark_of c) (h 0 (omega arith)) in
    omega arith

pub marks_add_up :
    {K : Type 0} (cs : Cells K) → ((q : ℕ) → InPool cs q → mark_of (cell_at cs q) ≤ 2) →
    live_nodes cs + waiting_nodes cs + free_nodes cs ≡ pool cs
marks_add_up cs h =
    let l = length-drop 32 cs in
    let a = all_marks (drop 32 cs)
    (λ i b.
    let k : 33 + i - 1 ≡ 32 + i = omega arith in
    subst (λ (m : ℕ). m ≤ 2) (ap (λ (j : ℕ). mark_of (get_or cs j (shut 0))) k ∙ sym (ap mark_of (get_or-drop 32 cs i (shut 0))))
    (h (33 + i) (record { past_seats = omega arith; inside = omega arith }))) in
    omega arith
