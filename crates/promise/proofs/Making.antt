-- The making leaves a catalogue just made.
use Rattle.std.proofs.Common.{◌≡◌, ℕ, suc, ◌+◌, ◌<◌, ◌≤◌, Bool, true, false, cond, ◌&&◌, leb, List, [], ◌∷◌, ◌++◌, length, get_or, take, drop, replicate, Some, sym, refl, ap, ◌∙◌, subst, inl, inr, suc-le-suc, zero-le, arith, length-drop, take-append-drop, length-take, get_or-drop, get_or-take, ext_get_or, leb-true}
use lib.ListN.{get_or-replicate, length-replicate}
use Rattle.std.proofs.lemmas.Bool.{le-leb, lt-leb}
use Rattle.store.specs.Nodes.{plain}
use Rattle.store.specs.Cells.{shut, readable, cell_at}
use Rattle.store.specs.Fits.{InRange, FitCells}
use Rattle.sessions.specs.Writings.{nothing_written, CellAfter, Rewritten}
use Rattle.sessions.specs.Making.{can_make, made_mark, every_node}
use Rattle.sessions.proofs.Sweeping.{inside}
use Rattle.runs.specs.Calls.{Kind}
use Rattle.runs.specs.States.{Cells, Fresh, AllFresh, fresh_seats}
use Rattle.promise.specs.Theorems.{MakingWell}

-- the node after the first i
next_cell : {K : Type 0} (cs : Cells K) (i : ℕ) → cell_at cs (i + 1) ≡ get_or cs i (shut 0)
next_cell cs i = ap (λ j. get_or cs j (shut 0)) (omega arith)

-- whether a catalogue can be made of N nodes
pub in_range_made : (N : ℕ) → InRange N → can_make N ≡ true
in_range_made N r = rw (le-leb 160 N r.least, le-leb N 4096 r.most)

pub made_in_range : (N : ℕ) → can_make N ≡ true → InRange N
made_in_range N e = by_tests (leb 160 N) (leb N 4096) refl refl e
  where
    by_tests : (a b : Bool) → leb 160 N ≡ a → leb N 4096 ≡ b → (a && b) ≡ true → InRange N
    by_tests true true s t e = record { least = leb-true 160 N s; most = leb-true N 4096 t }
    by_tests true false s t e = let z : ◌≡◌ {A = ℕ} 0 1 = cc in absurd (let f : ⊥ = omega arith in f)
    by_tests false b s t e = let z : ◌≡◌ {A = ℕ} 0 1 = cc in absurd (let f : ⊥ = omega arith in f)

pub not_made : (N : ℕ) → (InRange N → ⊥) → can_make N ≡ false
not_made N h = by_test (can_make N) refl
  where
    by_test : (b : Bool) → can_make N ≡ b → can_make N ≡ false
    by_test false t = t
    by_test true t = absurd (h (made_in_range N t))

-- the first n of a list, each of which is a
take_all : {A : Type 0} (d : A) (n : ℕ) (xs : List A) (a : A) → n ≤ length xs → ((i : ℕ) → i < n → get_or xs i d ≡ a) → take n xs ≡ replicate n a
take_all d n xs a h each =
    let k = length-take n xs in
    ext_get_or d (take n xs) (replicate n a) (simp (length-take, length-replicate) (omega arith)) (λ i b.
    let c : i < n = omega arith in
    get_or-take n xs i d c ∙ each i c ∙ sym (get_or-replicate n i a d c))

module _ {K : Type 0} (filler : K) where
  all_fresh : (cs : Cells K) → ((i : ℕ) → i < length cs → Fresh filler (get_or cs i (shut 0))) → AllFresh filler cs
  all_fresh [] h = tt
  all_fresh (c ∷ cs) h = (h 0 (suc-le-suc zero-le), all_fresh cs (λ i b. h (suc i) (suc-le-suc b)))

  module _ (cs ds : Cells K) where
    -- nothing written, nothing changed
    same_cells : Rewritten nothing_written cs ds → ds ≡ cs
    same_cells r = ext_get_or (shut 0) ds cs r.count (λ i h.
        let e = r.count in
        sym (next_cell ds i) ∙ r.each (i + 1) (inside (i + 1) (length cs) (omega arith) (omega arith)) ∙ next_cell cs i)

    module _ (r : Rewritten (every_node filler) cs ds) where
      each_at : (i : ℕ) → i < length ds → CellAfter (Some (plain (made_mark (i + 1)) filler filler)) (cell_at cs (i + 1)) (get_or ds i (shut 0))
      each_at i h =
          let e = r.count in
          subst (CellAfter (Some (plain (made_mark (i + 1)) filler filler)) (cell_at cs (i + 1))) (next_cell ds i)
          (r.each (i + 1) (inside (i + 1) (length cs) (omega arith) (omega arith)))

      seat_cell : FitCells ds → (i : ℕ) → i < 32 → i < length ds → get_or ds i (shut 0) ≡ readable (plain 3 filler filler)
      seat_cell f i s h = by_cell (subst (λ m. CellAfter (Some (plain m filler filler)) (cell_at cs (i + 1)) (get_or ds i (shut 0))) e (each_at i h))
        where
          e : made_mark (i + 1) ≡ 3
          e = rw (le-leb (i + 1) 32 (omega arith))

          by_cell : CellAfter (Some (plain 3 filler filler)) (cell_at cs (i + 1)) (get_or ds i (shut 0)) → get_or ds i (shut 0) ≡ readable (plain 3 filler filler)
          by_cell (inl d) = d
          by_cell (inr d) = let m = f.free (i + 1) 3 (next_cell ds i ∙ d) in absurd (let z : ⊥ = omega arith in z)

      pool_cell : (i : ℕ) → 32 ≤ i → i < length ds → Fresh filler (get_or ds i (shut 0))
      pool_cell i s h = subst (λ m. CellAfter (Some (plain m filler filler)) (cell_at cs (i + 1)) (get_or ds i (shut 0))) e (each_at i h)
        where
          e : made_mark (i + 1) ≡ 0
          e = rw (lt-leb (i + 1) 32 (omega arith))

      pool_made : AllFresh filler (drop 32 ds)
      pool_made = all_fresh (drop 32 ds) (λ i h.
          let n = length-drop 32 ds in
          subst (Fresh filler) (sym (get_or-drop 32 ds i (shut 0))) (pool_cell (32 + i) (omega arith) (omega arith)))

      all_made : FitCells ds → ds ≡ fresh_seats filler ++ drop 32 ds
      all_made f =
          let n = f.range.least in
          sym (take-append-drop 32 ds) ∙
          ap (λ (l : Cells K). l ++ drop 32 ds) (take_all (shut 0) 32 ds (readable (plain 3 filler filler)) (omega arith) (λ i s. seat_cell f i s (omega arith)))

pub making_well : {K F : Type 0} (kd : Kind K F) → MakingWell kd
making_well {K} kd cs z m = record {
  made = λ f g.
      let r = by_size true (in_range_made (length cs) f.range) in
      record {
        pool_cells = drop 32 z.memory;
        every_node = all_made kd.filler cs z.memory r g;
        all_free = pool_made kd.filler cs z.memory r;
        no_tree = m.root;
        at_rest = m.pending;
        all_closed = m.rows;
      };
  out_of_range = λ h. same_cells kd.filler cs z.memory (by_size false (not_made (length cs) h));
}
  where
    by_size : (b : Bool) → can_make (length cs) ≡ b → Rewritten (cond b (every_node kd.filler) nothing_written) cs z.memory
    by_size b e = subst (λ t. Rewritten (cond t (every_node kd.filler) nothing_written) cs z.memory) e m.cells
