-- A state after the first put that meets the promise: the node after the seats is taken.
use Rattle.std.proofs.Common.{◌≡◌, ℕ, suc, ◌+◌, ◌-◌, ◌<◌, ◌≤◌, Bool, true, false, cond, eqb, ◌≢◌, ◌⊎◌, List, [], ◌∷◌, ◌++◌, length, get_or, drop, set, sym, refl, ap, ◌∙◌, subst, inl, inr, arith, length-append, length-set, get_or-set_other, get_or-set_same, eqb-true, Ok}
use native.Mathlib.Decide.{dec_le}
use borrow.Author.Tests.{eqb-false}
use Rattle.store.specs.declared.node.Node.{Node}
use Rattle.store.specs.Cells.{shut, readable, mark_of, cell_at}
use Rattle.store.specs.Fits.{InRange, FitCells}
use Rattle.trees.specs.Regions.{Region as WellMade}
use Rattle.trees.specs.Trees.{leaf, node}
use Rattle.trees.specs.Edits.{Place, place}
use Rattle.store.specs.Nodes.{region, plain}
use Rattle.store.specs.declared.node.Region.{Region}
use Rattle.requests.specs.declared.call.Call.TheVariants.{Put}
use Rattle.runs.specs.declared.call.Answer.TheVariants.{Pending}
use Rattle.runs.specs.Calls.{Kind, regions}
use Rattle.runs.specs.States.{State, Cells, Free, TreeAt, with_mark, Leads, there, by_left, by_right, InTree, JustMade, AllFresh, fresh_seats}
use Rattle.runs.specs.Effects.{Exact}
use Rattle.runs.specs.Runs.{Turn, turn, state_at, LeftAfter}
use Rattle.runs.specs.Promise.{Kept}
use Rattle.runs.specs.Teeth.{at_place, FirstPutCanKeep}
use Rattle.runs.proofs.Makes.{none_marked, all_marked, seat_at, rest_at, empty_tree}
use Rattle.runs.proofs.Cheats.{none_fits, first_scene}
use Rattle.runs.proofs.Chains.{place_is_enough}

no_leads : {K : Type 0} (cs : Cells K) (q a : ℕ) → Leads cs q a → a ≡ 0 → ⊥
no_leads cs q a (there h) e = omega arith
no_leads cs q a (by_left _ v h c k) e = omega arith
no_leads cs q a (by_right _ v h c k) e = omega arith

once : (b : Bool) → cond b 1 0 + (0 + 0) ≤ 1
once true = omega arith
once false = omega arith

-- the first of a list that is not empty
first_of : {A : Type 0} (xs : List A) → 1 ≤ length xs → (x : A) × (rest : List A) × (xs ≡ x ∷ rest)
first_of [] h = absurd (let f : ⊥ = omega arith in f)
first_of (x ∷ rest) h = (x, rest, refl)

module _ {K F : Type 0} (kd : Kind K F) (z : State (Cells K)) (low high : K) (rows : ℕ) (made : JustMade kd.filler z) (fit : FitCells z.memory) where
  abbrev taken : Node K
  taken = record { mark = 1; left = 0; right = 0; size = 1; rows = rows; waits = 0; low = low; high = high }

  abbrev y : State (Cells K)
  y = record { memory = set z.memory 32 (readable taken); root = 33; pending = []; rows = z.rows }

  many : 33 ≤ length z.memory
  many = let a = fit.range.least in omega arith

  -- the taken node, and every other
  at_taken : cell_at y.memory 33 ≡ readable taken
  at_taken = let h : 32 < length z.memory = many in get_or-set_same z.memory 32 (readable taken) (shut 0) h

  at_other : (n : ℕ) → n - 1 ≢ 32 → cell_at y.memory n ≡ cell_at z.memory n
  at_other n ne = get_or-set_other z.memory 32 (n - 1) (readable taken) (shut 0) ne

  which : (n : ℕ) → (n - 1 ≡ 32) ⊎ (n - 1 ≢ 32)
  which n = by_test (eqb (n - 1) 32) refl
    where
      by_test : (b : Bool) → eqb (n - 1) 32 ≡ b → (n - 1 ≡ 32) ⊎ (n - 1 ≢ 32)
      by_test true e = inl (eqb-true (n - 1) 32 e)
      by_test false e = inr (eqb-false (n - 1) 32 e)

  seat_is : (s : ℕ) → s < 32 → cell_at z.memory (suc s) ≡ readable (plain 3 kd.filler kd.filler)
  seat_is s h = ap (λ (cs : Cells K). cell_at cs (suc s)) made.every_node ∙ seat_at kd.filler made.pool_cells s h

  free_is : (q : ℕ) → 32 < q → mark_of (cell_at z.memory q) ≡ 0
  free_is q h = ap (λ (cs : Cells K). mark_of (cell_at cs q)) made.every_node ∙ rest_at kd.filler made.pool_cells made.all_free q h

  -- no node waits
  none_waits : (n : ℕ) → mark_of (cell_at z.memory n) ≡ 2 → ⊥
  none_waits n e = by_dec (dec_le (n - 1) 31)
    where
      by_dec : Dec (n - 1 ≤ 31) → ⊥
      by_dec (yes l) =
          let a : suc (n - 1) - 1 ≡ n - 1 = omega arith in
          let b : n - 1 < 32 = omega arith in
          let c : mark_of (cell_at z.memory n) ≡ 3 =
          ap (λ (i : ℕ). mark_of (get_or z.memory i (shut 0))) (sym a) ∙ ap mark_of (seat_is (n - 1) b) in
          omega arith
      by_dec (no l) = let b : 32 < n = omega arith in let c = free_is n b in omega arith

  none_waits_after : (n : ℕ) → mark_of (cell_at y.memory n) ≡ 2 → ⊥
  none_waits_after n e =
      elim (which n) [
        | inl d ↦
            let a : mark_of (cell_at y.memory n) ≡ 1 = ap (λ (i : ℕ). mark_of (get_or y.memory i (shut 0))) d ∙ ap mark_of at_taken in
            omega arith
        | inr d ↦ none_waits n (sym (ap mark_of (at_other n d)) ∙ e)
      ]

  -- none left: the tree was empty
  abbrev one_turn : List (Turn (Cells K) K F)
  one_turn = turn (Put low high rows) (Ok (Pending 0)) y ∷ []

  none_left : (i q : ℕ) → LeftAfter z one_turn i q → ⊥
  none_left i q l =
      let h = l.within in
      let e : i ≡ 0 = omega arith in
      no_leads z.memory q z.root (subst (λ (j : ℕ). InTree (state_at z one_turn j) q) e l.was_in) made.no_tree

  -- the pool after it
  pool_full : 1 ≤ length made.pool_cells
  pool_full =
      let a = ap length made.every_node in
      let b = length-append (fresh_seats kd.filler) made.pool_cells in
      let c = fit.range.least in
      omega arith

  abbrev rest : Cells K
  rest = (first_of made.pool_cells pool_full).1

  split_pool : made.pool_cells ≡ (first_of made.pool_cells pool_full).0 ∷ rest
  split_pool = (first_of made.pool_cells pool_full).2

  rest_fresh : AllFresh kd.filler rest
  rest_fresh = (subst (AllFresh kd.filler) split_pool made.all_free).1

  all_cells : z.memory ≡ fresh_seats kd.filler ++ ((first_of made.pool_cells pool_full).0 ∷ rest)
  all_cells = made.every_node ∙ ap (λ (cs : Cells K). fresh_seats kd.filler ++ cs) split_pool

  marks_after : (m : ℕ) → with_mark m (drop 32 y.memory) ≡ cond (eqb 1 m) 1 0 + with_mark m rest
  marks_after m = ap (λ (cs : Cells K). with_mark m (drop 32 (set cs 32 (readable taken)))) all_cells

  length_was : length z.memory ≡ 32 + suc (length rest)
  length_was = ap length all_cells ∙ length-append (fresh_seats kd.filler) ((first_of made.pool_cells pool_full).0 ∷ rest)

  module _ (w : WellMade (regions kd) (region low high rows)) where
    free_33 : Free z.memory 33
    free_33 = record { in_pool = record { past_seats = omega arith; inside = many }; mark_zero = free_is 33 (omega arith) }

    exactly : Exact kd (first_scene kd z) (Put low high rows) (Ok (Pending 0)) y (place [] (node 33 leaf (region low high rows) leaf))
    exactly = record {
      refused_by = λ r e. absurd (let a : ◌≡◌ {A = ℕ} 0 1 = cc in let f : ⊥ = omega arith in f);
      refused_if = λ r f. absurd (none_fits kd z low high rows r made fit w f);
      refused_alters = λ e. absurd (let a : ◌≡◌ {A = ℕ} 0 1 = cc in let f : ⊥ = omega arith in f);
      accepted_does = λ e. record {
        answers = (refl, refl);
        tree_made = record { path = refl; numbered = (free_33, refl, tt, tt); once = λ n. once (eqb n 33) };
        pending_made = refl;
        size_kept = λ n v u m a b. absurd m;
        waiting_kept = λ n v m a. absurd (none_waits_after n m);
      };
    }

    exactly_all : (before : Place ℕ (Region K)) → TreeAt z before →
        Exact kd (at_place (first_scene kd z) before) (Put low high rows) (Ok (Pending 0)) y (place [] (node 33 leaf (region low high rows) leaf))
    exactly_all before t =
        place_is_enough kd (first_scene kd z) (place [] leaf) before (Put low high rows) (Ok (Pending 0)) y (place [] (node 33 leaf (region low high rows) leaf))
        (empty_tree kd.filler z made) t (λ q. omega arith) (sym (ap length made.at_rest)) exactly

    first_put_keeps : Kept kd z one_turn
    first_put_keeps =
        let live = marks_after 1 in
        let waits = marks_after 2 in
        let free = marks_after 0 in
        let l = none_marked kd.filler 1 rest rest_fresh refl in
        let n = none_marked kd.filler 2 rest rest_fresh refl in
        let f = all_marked kd.filler rest rest_fresh in
        let len = length_was in
        record {
          store_fit = record {
            range = subst InRange (sym (length-set z.memory 32 (readable taken))) fit.range;
            free = λ n m e.
                elim (which n) [
                  | inl d ↦
                      let a : readable taken ≡ shut m = sym at_taken ∙ ap (λ (i : ℕ). get_or y.memory i (shut 0)) (sym d) ∙ e in
                      absurd (let b : ◌≡◌ {A = ℕ} 0 1 = cc in let f : ⊥ = omega arith in f)
                  | inr d ↦ fit.free n m (sym (at_other n d) ∙ e)
                ];
          };
          place = place [] (node 33 leaf (region low high rows) leaf);
          tree_stands = record {
            spelled = (
              taken,
              refl,
              record {
                in_pool = record { past_seats = omega arith; inside = let a = length-set z.memory 32 (readable taken) in let b = many in omega arith };
                can_be_read = at_taken;
                mark_one = refl;
                the_region = refl;
                waits_for_none = refl;
                counted = λ e. refl;
              },
              refl,
              refl,
            );
            path_pending = refl;
          };
          tree_spells = refl;
          tree_distinct = λ q. once (eqb q 33);
          set_is_one = (w, tt, tt);
          exact = exactly_all;
          others = record {
            as_many = length-set z.memory 32 (readable taken);
            seats = λ s h. at_other (suc s) (λ e. let f : ⊥ = omega arith in f) ∙ seat_is s h;
            waits = λ q i s k t. absurd (none_left i q k);
            rest_free = λ q p t k.
                elim (which q) [
                  | inl d ↦ absurd (t (let a : 33 ≡ q = omega arith in subst (λ (j : ℕ). Leads y.memory j 33) a (there (omega arith))))
                  | inr d ↦ ap mark_of (at_other q d) ∙ free_is q p.past_seats
                ];
          };
          edit_told = refl;
          lookups_true = λ s k f e g. absurd (let a : ◌≡◌ {A = ℕ} 0 1 = cc in let b : ⊥ = omega arith in b);
          none_14 = (λ d f e. (let a : ◌≡◌ {A = ℕ} 0 1 = cc in let b : ⊥ = omega arith in b), tt);
          places_stand = λ s k e. absurd (let a : ◌≡◌ {A = ℕ} 0 1 = cc in let b : ⊥ = omega arith in b);
          lookups_end = λ s k e h g. (let a : ◌≡◌ {A = ℕ} 0 1 = cc in let b : ⊥ = omega arith in b);
          adds_up = omega arith;
          live_are_regions = omega arith;
          waiting_have_left = record {
            nodes = [];
            different = tt;
            each = λ q h. absurd h;
            every = λ q k. absurd (none_left k.moment q k.left);
            many = omega arith;
          };
          balanced_at_rest = λ e. (record { left_light = omega arith; right_light = omega arith }, tt, tt);
          low_at_rest = λ e. omega arith;
        }

pub first_put_can_keep : {K F : Type 0} (kd : Kind K F) → FirstPutCanKeep kd
first_put_can_keep kd z low high rows made fit w = (y kd z low high rows made fit, first_put_keeps kd z low high rows made fit w)
