-- As many pool nodes of each mark after a renaming.
use Rattle.std.proofs.Common.{◌≡◌, ℕ, suc, ◌+◌, ◌-◌, ◌<◌, ◌≤◌, Bool, true, false, cond, ◌||◌, T, eqb, List, [], ◌∷◌, map, length, get_or, drop, sym, refl, ap, ◌∙◌, subst, arith, length-drop, get_or-drop, eq-eqb, eqb-true}
use native.Mathlib.Decide.{dec_le}
use lib.ListN.{length-map}
use Rattle.store.specs.Cells.{Cell, shut, mark_of, cell_at}
use Rattle.runs.specs.States.{State, Cells, member, with_mark}
use Rattle.runs.specs.Runs.{AllDifferent}
use Rattle.runs.specs.Renamings.{Renaming, Renamed}
use Rattle.runs.proofs.Renames.{inverse, member_moves, member_to, to_past, mark_to, renamed_back}

-- A LIST WITHIN ANOTHER, no number twice, is not the longer one

without : ℕ → List ℕ → List ℕ
without q [] = []
without q (n ∷ ns) = cond (eqb q n) ns (n ∷ without q ns)

-- a test and what it is
pub is_it : (b : Bool) (P : Type 0) → (b ≡ true → P) → (b ≡ false → P) → P
is_it true P t f = t refl
is_it false P t f = f refl

pub or_right : (b c : Bool) → T (b || c) → b ≡ false → T c
or_right true c h e = absurd (let z : ◌≡◌ {A = ℕ} 0 1 = cc in let f : ⊥ = omega arith in f)
or_right false c h e = h

pub or_second : (b c : Bool) → T c → T (b || c)
or_second true c h = tt
or_second false c h = h

pub or_first : (b c : Bool) → b ≡ true → T (b || c)
or_first true c e = tt
or_first false c e = absurd (let z : ◌≡◌ {A = ℕ} 0 1 = cc in let f : ⊥ = omega arith in f)

shorter : (q : ℕ) (ns : List ℕ) → T (member q ns) → length ns ≡ suc (length (without q ns))
unfolding without
shorter q [] h = absurd h
shorter q (n ∷ ns) h =
    is_it (eqb q n) (suc (length ns) ≡ suc (length (cond (eqb q n) ns (n ∷ without q ns)))) (λ e. rw e)
    (λ e. let i = shorter q ns (or_right (eqb q n) (member q ns) h e) in rw e (ap suc i))

stays : (q p : ℕ) (ns : List ℕ) → T (member p ns) → eqb p q ≡ false → T (member p (without q ns))
unfolding without
stays q p [] h d = h
stays q p (n ∷ ns) h d =
    is_it (eqb q n) (T (member p (cond (eqb q n) ns (n ∷ without q ns))))
    (λ e.
    let a : eqb p n ≡ false = ap (eqb p) (sym (eqb-true q n e)) ∙ d in
    let b : T (member p ns) = or_right (eqb p n) (member p ns) h a in
    rw e b)
    (λ e.
    let c : T (eqb p n || member p (without q ns)) =
    is_it (eqb p n) (T (eqb p n || member p (without q ns))) (λ i. or_first (eqb p n) (member p (without q ns)) i)
    (λ i. or_second (eqb p n) (member p (without q ns)) (stays q p ns (or_right (eqb p n) (member p ns) h i) d)) in
    rw e c)

not_listed : (q a : ℕ) (ns : List ℕ) → member a ns ≡ false → T (member q ns) → eqb q a ≡ false
not_listed q a ns d h =
    is_it (eqb q a) (eqb q a ≡ false) (λ e. absurd (subst T (ap (λ (j : ℕ). member j ns) (eqb-true q a e) ∙ d) h)) (λ e. e)

pub within : (ms ns : List ℕ) → AllDifferent ms → ((q : ℕ) → T (member q ms) → T (member q ns)) → length ms ≤ length ns
within [] ns d h = omega arith
within (m ∷ ms) ns d h =
    let a = shorter m ns (h m (or_first (eqb m m) (member m ms) (eq-eqb m m refl))) in
    let b = within ms (without m ns) d.1
    (λ q i. stays m q ns (h q (or_second (eqb q m) (member q ms) i)) (not_listed q m ms d.0 i)) in
    omega arith

in_either : (b : Bool) (i q : ℕ) (ns : List ℕ) → T (member q ns) → T (member q (cond b (i ∷ ns) ns))
in_either true i q ns h = or_second (eqb q i) (member q ns) h
in_either false i q ns h = h

in_first : (b : Bool) (i q : ℕ) (ns : List ℕ) → b ≡ true → q ≡ i → T (member q (cond b (i ∷ ns) ns))
in_first true i q ns e d = or_first (eqb q i) (member q ns) (eq-eqb q i d)
in_first false i q ns e d = absurd (let z : ◌≡◌ {A = ℕ} 0 1 = cc in let f : ⊥ = omega arith in f)

-- THE NUMBERS OF A MARK, of cells that begin at a number

module _ {K : Type 0} (m : ℕ) where
  pub marked : ℕ → Cells K → List ℕ
  marked i [] = []
  marked i (c ∷ cs) = cond (eqb (mark_of c) m) (i ∷ marked (suc i) cs) (marked (suc i) cs)

  pub as_marked : (i : ℕ) (cs : Cells K) → length (marked i cs) ≡ with_mark m cs
  unfolding marked
  as_marked i [] = refl
  as_marked i (c ∷ cs) =
      let a = as_marked (suc i) cs in
      is_it (eqb (mark_of c) m)
      (length (cond (eqb (mark_of c) m) (i ∷ marked (suc i) cs) (marked (suc i) cs)) ≡ cond (eqb (mark_of c) m) 1 0 + with_mark m cs)
      (λ e. rw e (omega arith)) (λ e. rw e (omega arith))

  -- what number q of the list says, and back
  pub record At (i : ℕ) (cs : Cells K) (q : ℕ) : Type 0 where
    pub from_here : i ≤ q
    pub inside : q < i + length cs
    pub the_mark : mark_of (get_or cs (q - i) (shut 0)) ≡ m

  at_next : (i : ℕ) (c : Cell K) (cs : Cells K) (q : ℕ) → At (suc i) cs q → At i (c ∷ cs) q
  at_next i c cs q a =
      let h = a.from_here in
      let g = a.inside in
      let e : q - i ≡ suc (q - suc i) = omega arith in
      record {
        from_here = omega arith;
        inside = omega arith;
        the_mark = ap (λ (j : ℕ). mark_of (get_or (c ∷ cs) j (shut 0))) e ∙ a.the_mark;
      }

  at_first : (i : ℕ) (c : Cell K) (cs : Cells K) (q : ℕ) → q ≡ i → mark_of c ≡ m → At i (c ∷ cs) q
  at_first i c cs q e d =
      let z : q - i ≡ 0 = omega arith in
      record { from_here = omega arith; inside = omega arith; the_mark = ap (λ (j : ℕ). mark_of (get_or (c ∷ cs) j (shut 0))) z ∙ d }

  pub listed : (i : ℕ) (cs : Cells K) (q : ℕ) → T (member q (marked i cs)) → At i cs q
  unfolding marked
  listed i [] q h = absurd h
  listed i (c ∷ cs) q h =
      is_it (eqb (mark_of c) m) (At i (c ∷ cs) q)
      (λ e.
      let M : Bool → Type 0 = λ b. T (member q (cond b (i ∷ marked (suc i) cs) (marked (suc i) cs))) in
      let g : T (eqb q i || member q (marked (suc i) cs)) = subst M e h in
      is_it (eqb q i) (At i (c ∷ cs) q) (λ d. at_first i c cs q (eqb-true q i d) (eqb-true (mark_of c) m e))
      (λ d. at_next i c cs q (listed (suc i) cs q (or_right (eqb q i) (member q (marked (suc i) cs)) g d))))
      (λ e.
      let M : Bool → Type 0 = λ b. T (member q (cond b (i ∷ marked (suc i) cs) (marked (suc i) cs))) in
      let g : T (member q (marked (suc i) cs)) = subst M e h in
      at_next i c cs q (listed (suc i) cs q g))

  pub list_it : (i : ℕ) (cs : Cells K) (q : ℕ) → At i cs q → T (member q (marked i cs))
  unfolding marked
  list_it i [] q a = let h = a.from_here in let g = a.inside in absurd (let f : ⊥ = omega arith in f)
  list_it i (c ∷ cs) q a = by_dec (dec_le (suc i) q) (list_it (suc i) cs q)
    where
      by_dec : Dec (suc i ≤ q) → (At (suc i) cs q → T (member q (marked (suc i) cs))) → T (member q (cond (eqb (mark_of c) m) (i ∷ marked (suc i) cs) (marked (suc i) cs)))
      by_dec (yes l) again =
          let g = a.inside in
          let e : q - i ≡ suc (q - suc i) = omega arith in
          in_either (eqb (mark_of c) m) i q (marked (suc i) cs)
          (again (record { from_here = l; inside = omega arith; the_mark = sym (ap (λ (j : ℕ). mark_of (get_or (c ∷ cs) j (shut 0))) e) ∙ a.the_mark }))
      by_dec (no l) again =
          let h = a.from_here in
          let d : q ≡ i = omega arith in
          let z : q - i ≡ 0 = omega arith in
          in_first (eqb (mark_of c) m) i q (marked (suc i) cs)
          (eq-eqb (mark_of c) m (sym (ap (λ (j : ℕ). mark_of (get_or (c ∷ cs) j (shut 0))) z) ∙ a.the_mark)) d

  pub different_marked : (i : ℕ) (cs : Cells K) → AllDifferent (marked i cs)
  unfolding marked
  different_marked i [] = tt
  different_marked i (c ∷ cs) =
      let ih = different_marked (suc i) cs in
      let fresh : member i (marked (suc i) cs) ≡ false =
      is_it (member i (marked (suc i) cs)) (member i (marked (suc i) cs) ≡ false)
      (λ e. let a = (listed (suc i) cs i (subst T (sym e) tt)).from_here in absurd (let f : ⊥ = omega arith in f)) (λ e. e) in
      is_it (eqb (mark_of c) m) (AllDifferent (cond (eqb (mark_of c) m) (i ∷ marked (suc i) cs) (marked (suc i) cs)))
      (λ e. let M : Bool → Type 0 = λ b. AllDifferent (cond b (i ∷ marked (suc i) cs) (marked (suc i) cs)) in subst M (sym e) (fresh, ih))
      (λ e. let M : Bool → Type 0 = λ b. AllDifferent (cond b (i ∷ marked (suc i) cs) (marked (suc i) cs)) in subst M (sym e) ih)

pub different_to : {N : ℕ} (ρ : Renaming N) (qs : List ℕ) → AllDifferent qs → AllDifferent (map ρ.to qs)
different_to ρ [] d = tt
different_to ρ (q ∷ qs) d = (member_to ρ q qs ∙ d.0, different_to ρ qs d.1)

module _ {K : Type 0} {N : ℕ} (ρ : Renaming N) (cs ds : Cells K) (lc : length cs ≡ N) (ld : length ds ≡ N)
    (marks : (n : ℕ) → mark_of (cell_at ds (ρ.to n)) ≡ mark_of (cell_at cs n)) (m : ℕ) where
  -- the pool begins at 33
  moves : (q : ℕ) → At m 33 (drop 32 cs) (ρ.from q) → At m 33 (drop 32 ds) q
  moves q a =
      let h = a.from_here in
      let g = a.inside in
      let l = length-drop 32 cs in
      let l' = length-drop 32 ds in
      let b : 32 < ρ.to (ρ.from q) = to_past ρ (ρ.from q) 32 (omega arith) (omega arith) in
      let d : ρ.from q ≤ N = omega arith in
      let e = ρ.to_nodes (ρ.from q) d in
      let f = ρ.to_from q in
      let j : 32 + (ρ.from q - 33) ≡ ρ.from q - 1 = omega arith in
      let k : 32 + (q - 33) ≡ q - 1 = omega arith in
      record {
        from_here = omega arith;
        inside = omega arith;
        the_mark =
            ap mark_of (get_or-drop 32 ds (q - 33) (shut 0)) ∙ ap (λ (i : ℕ). mark_of (get_or ds i (shut 0))) k ∙
            ap (λ (i : ℕ). mark_of (cell_at ds i)) (sym f) ∙ marks (ρ.from q) ∙
            ap (λ (i : ℕ). mark_of (get_or cs i (shut 0))) (sym j) ∙ sym (ap mark_of (get_or-drop 32 cs (ρ.from q - 33) (shut 0))) ∙ a.the_mark;
      }

  pub no_more : with_mark m (drop 32 cs) ≤ with_mark m (drop 32 ds)
  no_more =
      let a = within (map ρ.to (marked m 33 (drop 32 cs))) (marked m 33 (drop 32 ds))
      (different_to ρ (marked m 33 (drop 32 cs)) (different_marked m 33 (drop 32 cs)))
      (λ q i. list_it m 33 (drop 32 ds) q (moves q (listed m 33 (drop 32 cs) (ρ.from q) (subst T (member_moves ρ q (marked m 33 (drop 32 cs))) i)))) in
      let b = length-map (marked m 33 (drop 32 cs)) ρ.to in
      let c = as_marked m 33 (drop 32 cs) in
      let d = as_marked m 33 (drop 32 ds) in
      omega arith

-- as many after the renaming as before it
pub marks_same :
    {K : Type 0} {N : ℕ} (ρ : Renaming N) (x y : State (Cells K)) → Renamed ρ x y → (m : ℕ) →
    with_mark m (drop 32 y.memory) ≡ with_mark m (drop 32 x.memory)
marks_same ρ x y r m =
    let back = renamed_back ρ x y r in
    let a = no_more ρ x.memory y.memory r.has_nodes r.as_many (mark_to ρ x y r) m in
    let b = no_more (inverse ρ) y.memory x.memory back.has_nodes back.as_many (mark_to (inverse ρ) y x back) m in
    omega arith
