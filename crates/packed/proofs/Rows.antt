-- The nodes in a row of bytes: how many, which, and after one of them was written.
use Rattle.std.proofs.Common.{◌≡◌, ℕ, zero, suc, ◌+◌, ◌-◌, ◌*◌, ◌/◌, ◌<◌, ◌≤◌, false, List, [], ◌∷◌, ◌++◌, length, get_or, take, drop, set, Ok, Err, Result, sym, refl, ap, ◌∙◌, subst, mul-le-mul_right, suc-mul, zero-mul, div-mul-le_self, arith, length-append, length-drop, add-zero, get_or-take, get_or-drop}
use lib.ListN.{length-map}
use borrow.Rule.Slice.PartMut.{put_mid}
use Rattle.std.proofs.lemmas.Slice.{between_is, drop-put_mid}
use Rattle.std.proofs.lemmas.List.{take_at, drop_at, drop-drop, drop-append-le, length-take-le, take-append-le, take-take}
use Rattle.keys.specs.declared.key.Key as key
use Rattle.store.specs.declared.node.Node.{Node}
use Rattle.std.specs.declared.ops.Range.{Range}
use Rattle.store.specs.declared.fault.Function.{Function}
use Rattle.store.specs.declared.fault.Function.TheVariants.{Mark, Read, Write}
use Rattle.store.specs.declared.fault.StoreFault.{StoreFault}
use Rattle.store.specs.Faults.{outside, inside_or}
use Rattle.store.specs.Cells.{readable, mark_answer, read_answer, write_answer, all_readable, Written}
use Rattle.store.specs.Fits.{InRange}
use Rattle.store.proofs.Insides.{below, answered, answered_is, refused, refused_so}
use Rattle.store.proofs.Readables.{Indexed, mark_there, mark_refused, read_there, read_refused, write_there, write_refused, written_there, unwritten}
use Rattle.store.proofs.Writes.{written_length}
use Rattle.packed.specs.Layout.{node_width, node_of, node_bytes}
use Rattle.packed.specs.Rooms.{nodes_in, byte_nodes, byte_cells, room_answer, room, bytes_after, left_over}
use Rattle.packed.proofs.Places.{among, room_inside}

module _ {K : Type 0} (m : ℕ) (f : List ℕ → Node K) where
  nodes_length : (k : ℕ) (bs : List ℕ) → length (nodes_in m f k bs) ≡ k
  nodes_length zero bs = refl
  nodes_length (suc k) bs = ap suc (nodes_length k (drop m bs))

  node_at : (k i : ℕ) (bs : List ℕ) (d : Node K) → i < k → get_or (nodes_in m f k bs) i d ≡ f (take m (drop (i * m) bs))
  node_at zero i bs d h = let z : ⊥ = omega arith in elim z [ ]
  node_at (suc k) zero bs d h = rw (zero-mul m)
  node_at (suc k) (suc i) bs d h =
      node_at k i (drop m bs) d (omega arith) ∙ ap (λ l. f (take m l)) (drop-drop (i * m) m bs ∙ ap (λ n. drop n bs) (omega (arith, suc-mul i m)))

  -- the bytes c put in place of those of the node at i
  node_put : (k i : ℕ) (bs c : List ℕ) → i < k → k * m ≤ length bs → length c ≡ m →
      nodes_in m f k (take (i * m) bs ++ (c ++ drop m (drop (i * m) bs))) ≡ set (nodes_in m f k bs) i (f c)
  node_put zero i bs c h l lc = let z : ⊥ = omega arith in elim z [ ]
  node_put (suc k) zero bs c h l lc =
      rw (zero-mul m) (ap (λ p. f p ∷ nodes_in m f k (drop m (c ++ drop m bs))) (take_at c (drop m bs) m lc) ∙ ap (λ p. f c ∷ nodes_in m f k p) (drop_at c (drop m bs) m lc))
  node_put (suc k) (suc i) bs c h l lc =
      let a : ℕ = i * m in
      let e : suc i * m ≡ m + a = omega (arith, suc-mul i m) in
      let h1 : m + k * m ≤ length bs = omega (arith, suc-mul k m) in
      let h2 : i * m ≤ k * m = mul-le-mul_right m (omega arith) in
      let inner : List ℕ = drop m bs in
      let li : k * m ≤ length inner = simp length-drop (omega arith) in
      let lt : length (take (m + a) bs) ≡ m + a = length-take-le (m + a) bs (omega arith) in
      let rest : List ℕ = c ++ drop m (drop (m + a) bs) in
      let t : take m (take (m + a) bs ++ rest) ≡ take m bs = take-append-le m (take (m + a) bs) rest (omega arith) ∙ take-take m (m + a) bs (omega arith) in
      let q : m + a - m ≡ a = omega arith in
      let d : drop m (take (m + a) bs ++ rest) ≡ take a inner ++ (c ++ drop m (drop a inner)) =
      drop-append-le m (take (m + a) bs) rest (omega arith)
      ∙ ap (λ l. l ++ rest) (sym (between_is bs m (m + a)) ∙ ap (λ n. take n inner) q)
      ∙ ap (λ l. take a inner ++ (c ++ drop m l)) (sym (drop-drop a m bs)) in
      rw e (ap (λ p. f p ∷ nodes_in m f k (drop m (take (m + a) bs ++ rest))) t
      ∙ ap (λ p. f (take m bs) ∷ nodes_in m f k p) d ∙ ap (λ p. f (take m bs) ∷ p) (node_put k i inner c (omega arith) li lc))

same_length : (a m : ℕ) (bs c : List ℕ) → a + m ≤ length bs → length c ≡ m → length (take a bs ++ (c ++ drop m (drop a bs))) ≡ length bs
same_length a m bs c h lc =
    let t : length (take a bs) ≡ a = length-take-le a bs (omega arith) in
    simp (length-append, length-drop, t) (omega arith)

module _ {K F : Type 0} (k : key.Ghosts K F) (bs : List ℕ) where
  abbrev width : ℕ
  width = node_width k.wide

  pub count_nodes : length (byte_nodes k bs) ≡ length bs / width
  count_nodes = nodes_length width (node_of k) (length bs / width) bs

  module _ (n : ℕ) where
    -- the answer of `room_of` that the code has in hand
    abbrev pub Roomed : Function → Result (Range ℕ) StoreFault → Type 0
    Roomed f r = r ≡ room_answer f n (length bs) width

    inside : (f : Function) (r : Range ℕ) → Roomed f (Ok r) → outside n (length bs / width) ≡ false
    inside f r h = answered f n (length bs / width) (Ok (room n width)) r h

    indexed : (f : Function) (r : Range ℕ) → Roomed f (Ok r) → Indexed (byte_nodes k bs) n f (Ok (n - 1))
    indexed f r h =
        let e : outside n (length (byte_nodes k bs)) ≡ false = ap (outside n) count_nodes ∙ inside f r h in rw e

    not_indexed : (f : Function) (x : StoreFault) → Roomed f (Err x) → Indexed (byte_nodes k bs) n f (Err x)
    not_indexed f x h =
        subst (λ N. Err x ≡ inside_or f n N (Ok (n - 1))) (sym count_nodes) (refused_so f n (length bs / width) x (room n width) (Ok (n - 1)) h)

    -- where the node lies
    placed : (f : Function) (r : Range ℕ) → Roomed f (Ok r) → r ≡ room n width
    placed f r h = answered_is f n (length bs / width) r (room n width) h

    long : (room n width).end - (room n width).start ≡ width
    long = omega arith

    node_there : (f : Function) (r : Range ℕ) (d : Node K) → Roomed f (Ok r) → get_or (byte_nodes k bs) (n - 1) d ≡ node_of k (take (r.end - r.start) (drop r.start bs))
    node_there f r d h =
        rw (placed f r h, long) (node_at width (node_of k) (length bs / width) (n - 1) bs d (below n (length bs / width) (inside f r h)))

    pub mark_room : (r : Range ℕ) → Roomed Mark (Ok r) → Ok (get_or bs r.start 0) ≡ mark_answer (byte_cells k bs) n
    mark_room r h =
        let some : 0 < r.end - r.start = omega (arith, ap (λ p. p.end - p.start) (placed Mark r h), long) in
        let first : get_or (take (r.end - r.start) (drop r.start bs)) 0 0 ≡ get_or bs r.start 0 = rw (get_or-take, get_or-drop, add-zero) in
        ap Ok (sym first) ∙ sym (ap (λ v. Ok v.mark) (node_there Mark r (node_of k []) h))
        ∙ mark_there (byte_nodes k bs) n (n - 1) (node_of k []) (indexed Mark r h)

    pub mark_none : (x : StoreFault) → Roomed Mark (Err x) → Err x ≡ mark_answer (byte_cells k bs) n
    mark_none x h = mark_refused (byte_nodes k bs) n x (not_indexed Mark x h)

    pub read_room : (r : Range ℕ) (v : Node K) → Roomed Read (Ok r) → v ≡ node_of k (take (r.end - r.start) (drop r.start bs)) → Ok v ≡ read_answer (byte_cells k bs) n
    read_room r v h e =
        ap Ok (e ∙ sym (node_there Read r v h)) ∙ read_there (byte_nodes k bs) n (n - 1) v (indexed Read r h)

    pub read_none : (x : StoreFault) → Roomed Read (Err x) → Err x ≡ read_answer (byte_cells k bs) n
    read_none x h = read_refused (byte_nodes k bs) n x (not_indexed Read x h)

    pub write_room : (r : Range ℕ) → Roomed Write (Ok r) → Ok tt ≡ write_answer (byte_cells k bs) n
    write_room r h = write_there (byte_nodes k bs) n (n - 1) (indexed Write r h)

    pub write_none : (x : StoreFault) → Roomed Write (Err x) → Err x ≡ write_answer (byte_cells k bs) n
    write_none x h = write_refused (byte_nodes k bs) n x (not_indexed Write x h)

    module _ (v : Node K) where
      -- the row as the code leaves it, and as the definition says it
      pub after_is : (r : Range ℕ) (c : List ℕ) → Roomed Write (Ok r) → c ≡ node_bytes k v → put_mid r.start (r.end - r.start) bs c ≡ bytes_after k bs n v
      unfolding bytes_after
      after_is r c h e =
          rw (inside Write r h, placed Write r h, long, e, drop-drop width ((n - 1) * width) bs)

      pub after_none : (x : StoreFault) → Roomed Write (Err x) → bs ≡ bytes_after k bs n v
      unfolding bytes_after
      after_none x h = rw (refused Write n (length bs / width) x (room n width) h)

      -- the bytes left over lie behind every node
      pub rest_kept : (r : Range ℕ) (c : List ℕ) → Roomed Write (Ok r) → length c ≡ width → left_over k (put_mid r.start (r.end - r.start) bs c) ≡ left_over k bs
      rest_kept r c h lc =
          let a : ℕ = (n - 1) * width in
          let e : outside n (length bs / width) ≡ false = inside Write r h in
          let fits : a + width ≤ length bs = room_inside n (length bs) width e in
          let l : length (put_mid a width bs c) ≡ length bs = same_length a width bs c fits lc in
          rw (placed Write r h, long) (ap (λ x. drop (x / width * width) (put_mid a width bs c)) l
          ∙ drop-put_mid a width bs c (length bs / width * width) (among n (length bs) width e) (omega arith) lc)

      pub unwritten_none : (x : StoreFault) → Roomed Write (Err x) → Written (byte_cells k bs) n v (byte_cells k bs)
      unwritten_none x h = unwritten (byte_nodes k bs) n x v (not_indexed Write x h)

      module _ (sized : length (node_bytes k v) ≡ width) (back : node_of k (node_bytes k v) ≡ v) where
        -- the nodes after the write, where the node can be read back from its bytes
        pub nodes_put : outside n (length bs / width) ≡ false → byte_nodes k (bytes_after k bs n v) ≡ set (byte_nodes k bs) (n - 1) v
        unfolding bytes_after
        nodes_put e =
            let a : ℕ = (n - 1) * width in
            let c : List ℕ = node_bytes k v in
            let N : ℕ = length bs / width in
            let new : List ℕ = take a bs ++ (c ++ drop width (drop a bs)) in
            let same : length new ≡ length bs = same_length a width bs c (room_inside n (length bs) width e) sized in
            rw (e, ← drop-drop width a bs)
            (ap (λ x. nodes_in width (node_of k) (x / width) new) same
            ∙ node_put width (node_of k) N (n - 1) bs c (below n N e) (div-mul-le_self (length bs) width) sized
            ∙ ap (λ x. set (byte_nodes k bs) (n - 1) x) back)

        pub written_after : (r : Range ℕ) → Roomed Write (Ok r) → Written (byte_cells k bs) n v (byte_cells k (bytes_after k bs n v))
        written_after r h =
            subst (λ vs. Written (byte_cells k bs) n v (all_readable vs)) (sym (nodes_put (inside Write r h)))
            (written_there (byte_nodes k bs) n (n - 1) v (indexed Write r h))

-- a write keeps the number of nodes
pub in_range_kept : {K : Type 0} (vs us : List (Node K)) (n : ℕ) (v : Node K) → Written (all_readable vs) n v (all_readable us) →
    InRange (length vs) → InRange (length us)
in_range_kept vs us n v w = subst InRange (sym (length-map vs readable) ∙ sym (written_length (all_readable vs) n v (all_readable us) w) ∙ length-map us readable)
