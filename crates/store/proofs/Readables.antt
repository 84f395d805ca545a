-- What the cells of a row of nodes answer, where none is closed: from the answer of `index_of` alone.
use Rattle.std.proofs.Common.{◌≡◌, ℕ, ◌-◌, ◌<◌, false, List, length, get_or, set, Ok, Err, Result, sym, ap, ◌∙◌, subst, inl}
use lib.ListN.{length-map}
use Rattle.std.proofs.lemmas.List.{get_or-map, map-set}
use Rattle.store.specs.declared.node.Node.{Node}
use Rattle.store.specs.declared.fault.Function.{Function}
use Rattle.store.specs.declared.fault.Function.TheVariants.{Mark, Read, Write}
use Rattle.store.specs.declared.fault.StoreFault.{StoreFault}
use Rattle.store.specs.Faults.{outside, inside_or}
use Rattle.store.specs.Cells.{shut, readable, cell_at, mark_of, shown, mark_answer, read_answer, write_answer, count_answer, Written, all_readable, nodes_after}
use Rattle.store.specs.Fits.{Iff, InRange}
use Rattle.store.proofs.Insides.{count_is, below, answered, answered_is, refused, refused_so, mark_inside, read_inside, write_inside, replaced_inside, replaced_outside}

module _ {K : Type 0} (vs : List (Node K)) (n : ℕ) where
  -- the answer of `index_of` that the code has in hand
  abbrev pub Indexed : Function → Result ℕ StoreFault → Type 0
  Indexed f r = r ≡ inside_or f n (length vs) (Ok (n - 1))

  same_length : length (all_readable vs) ≡ length vs
  same_length = length-map vs readable

  inside : (f : Function) (i : ℕ) → Indexed f (Ok i) → outside n (length (all_readable vs)) ≡ false
  inside f i h = ap (outside n) same_length ∙ answered f n (length vs) (Ok (n - 1)) i h

  pub index_below : (f : Function) (i : ℕ) → Indexed f (Ok i) → i < length vs
  index_below f i h =
      subst (λ j. j < length vs) (sym (answered_is f n (length vs) i (n - 1) h)) (below n (length vs) (answered f n (length vs) (Ok (n - 1)) i h))

  cell_is : (f : Function) (i : ℕ) (d : Node K) → Indexed f (Ok i) → cell_at (all_readable vs) n ≡ readable (get_or vs i d)
  cell_is f i d h =
      let e = answered_is f n (length vs) i (n - 1) h in
      get_or-map readable vs (n - 1) d (shut 0) (below n (length vs) (answered f n (length vs) (Ok (n - 1)) i h)) ∙ ap (λ j. readable (get_or vs j d)) (sym e)

  pub mark_there : (i : ℕ) (d : Node K) → Indexed Mark (Ok i) → Ok (get_or vs i d).mark ≡ mark_answer (all_readable vs) n
  mark_there i d h = sym (mark_inside (all_readable vs) n (inside Mark i h) ∙ ap (λ c. Ok (mark_of c)) (cell_is Mark i d h))

  pub read_there : (i : ℕ) (d : Node K) → Indexed Read (Ok i) → Ok (get_or vs i d) ≡ read_answer (all_readable vs) n
  read_there i d h = sym (read_inside (all_readable vs) n (inside Read i h) ∙ ap (shown n) (cell_is Read i d h))

  pub write_there : (i : ℕ) → Indexed Write (Ok i) → Ok tt ≡ write_answer (all_readable vs) n
  write_there i h = sym (write_inside (all_readable vs) n (inside Write i h))

  pub written_there : (i : ℕ) (v : Node K) → Indexed Write (Ok i) → Written (all_readable vs) n v (all_readable (set vs i v))
  unfolding Written
  written_there i v h =
      inl (ap (λ j. all_readable (set vs j v)) (answered_is Write n (length vs) i (n - 1) h)
      ∙ map-set readable vs (n - 1) v ∙ sym (replaced_inside (all_readable vs) n (readable v) (inside Write i h)))

  pub nodes_there : (i : ℕ) (v : Node K) → Indexed Write (Ok i) → set vs i v ≡ nodes_after vs n v
  unfolding nodes_after
  nodes_there i v h =
      rw (answered Write n (length vs) (Ok (n - 1)) i h) (ap (λ j. set vs j v) (answered_is Write n (length vs) i (n - 1) h))

  -- refused: the same fault is the answer, and nothing was written
  pub mark_refused : (x : StoreFault) → Indexed Mark (Err x) → Err x ≡ mark_answer (all_readable vs) n
  unfolding mark_answer
  mark_refused x h = refused_so Mark n _ x (n - 1) _ (subst (λ l. Err x ≡ inside_or Mark n l (Ok (n - 1))) (sym same_length) h)

  pub read_refused : (x : StoreFault) → Indexed Read (Err x) → Err x ≡ read_answer (all_readable vs) n
  unfolding read_answer
  read_refused x h = refused_so Read n _ x (n - 1) _ (subst (λ l. Err x ≡ inside_or Read n l (Ok (n - 1))) (sym same_length) h)

  pub write_refused : (x : StoreFault) → Indexed Write (Err x) → Err x ≡ write_answer (all_readable vs) n
  unfolding write_answer
  write_refused x h = refused_so Write n _ x (n - 1) _ (subst (λ l. Err x ≡ inside_or Write n l (Ok (n - 1))) (sym same_length) h)

  pub unwritten : (x : StoreFault) (v : Node K) → Indexed Write (Err x) → Written (all_readable vs) n v (all_readable vs)
  unfolding Written
  unwritten x v h = inl (sym (replaced_outside (all_readable vs) n (readable v) (ap (outside n) same_length ∙ refused Write n (length vs) x (n - 1) h)))

  pub nodes_same : (x : StoreFault) (v : Node K) → Indexed Write (Err x) → vs ≡ nodes_after vs n v
  unfolding nodes_after
  nodes_same x v h = rw (refused Write n (length vs) x (n - 1) h)

-- the number of nodes is what count answers
pub count_there : {K : Type 0} (vs : List (Node K)) → count_answer (all_readable vs) ≡ length vs
count_there vs = count_is (all_readable vs) ∙ length-map vs readable

pub range_counted : {K : Type 0} (vs : List (Node K)) → Iff (InRange (length vs)) (InRange (count_answer (all_readable vs)))
range_counted vs =
    let e = count_there vs in
    record { to = subst InRange (sym e); from = subst InRange e }

-- all that the four functions of the record store need
pub ruleset record_answers =
    (count_there, mark_there, mark_refused, read_there, read_refused, write_there, written_there, nodes_there, write_refused, unwritten, nodes_same)
