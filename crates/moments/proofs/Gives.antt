-- What the invariant gives of the promise.
use Rattle.std.proofs.Common.{◌≡◌, ℕ, zero, suc, ◌-◌, ◌≤◌, List, [], ◌∷◌, length, get_or, drop, sym, refl, ap, ◌∙◌, subst, arith}
use native.Mathlib.Decide.{dec_le}
use Rattle.store.specs.declared.node.Region.{Region}
use Rattle.store.specs.Cells.{shut, mark_of, cell_at}
use Rattle.trees.specs.Regions.{RegionSet}
use Rattle.trees.specs.Trees.{count, Balanced}
use Rattle.trees.specs.Edits.{Frame, Place, plug, whole}
use Rattle.trees.proofs.Places.{count_order}
use Rattle.trees.proofs.Heights.{height_low}
use Rattle.runs.specs.Calls.{Kind, regions}
use Rattle.runs.specs.Histories.{set_of, to_do}
use Rattle.runs.specs.States.{State, Cells, InPool, with_mark, InTree}
use Rattle.runs.specs.Runs.{Turn, history, state, LeftDuring}
use Rattle.runs.specs.Promise.{OtherNodes}
use Rattle.runs.proofs.Chains.{no_frames}
use Rattle.moments.specs.Invariant.{Inv, KeptBase}
use Rattle.moments.specs.Theorems.{InvGives}
use Rattle.moments.proofs.Counts.{nodes_of, nodes_different, nodes_many, node_is, is_node, marked_count, marks_add_up}
use Rattle.moments.proofs.Spelled.{live_mark, tree_live, leads}

-- past the end of the cells there is mark 0
past_end : {K : Type 0} (cs : Cells K) (i : ℕ) → length cs ≤ i → mark_of (get_or cs i (shut 0)) ≡ 0
past_end [] i h = refl
past_end (c ∷ cs) zero h = absurd (let f : ⊥ = omega arith in f)
past_end (c ∷ cs) (suc i) h = past_end cs i (omega arith)

module _ {K F : Type 0} (kd : Kind K F) (z : State (Cells K)) (ts : List (Turn (Cells K) K F)) (p : Place ℕ (Region K)) (v : Inv kd z ts p) where
  abbrev now : State (Cells K)
  now = state z ts

  -- a node of mark 2 is of the pool: the seats have mark 3
  pub two_in_pool : (q : ℕ) → mark_of (cell_at now.memory q) ≡ 2 → InPool now.memory q
  two_in_pool q m = by_seat (dec_le (q - 1) 31) (dec_le q (length now.memory))
    where
      by_seat : Dec (q - 1 ≤ 31) → Dec (q ≤ length now.memory) → InPool now.memory q
      by_seat (yes h) d =
          let e : suc (q - 1) - 1 ≡ q - 1 = omega arith in
          let seat = v.seats (q - 1) (omega arith) in
          let three : mark_of (cell_at now.memory q) ≡ 3 =
          ap (λ (i : ℕ). mark_of (get_or now.memory i (shut 0))) (sym e) ∙ ap mark_of seat in
          absurd (let f : ⊥ = omega arith in f)
      by_seat (no h) (yes l) = record { past_seats = omega arith; inside = l }
      by_seat (no h) (no l) = let e = past_end now.memory (q - 1) (omega arith) in absurd (let f : ⊥ = omega arith in f)

  left_in_pool : (q : ℕ) → LeftDuring z ts q → InPool now.memory q × (mark_of (cell_at now.memory q) ≡ 2)
  left_in_pool q d =
      let w = v.left_waits q d.moment d.session d.left d.still_open in
      let m : mark_of (cell_at now.memory q) ≡ 2 = ap mark_of w.1 ∙ w.2 in
      (two_in_pool q m, m)

  others_stand : OtherNodes kd z ts
  others_stand = record {
    as_many = v.as_many;
    seats = v.seats;
    waits = v.left_waits;
    rest_free = λ q i t d. by_mark q i t d (mark_of (cell_at now.memory q)) refl;
  }
    where
      by_mark :
          (q : ℕ) → InPool now.memory q → (InTree now q → ⊥) → (LeftDuring z ts q → ⊥) →
          (m : ℕ) → mark_of (cell_at now.memory q) ≡ m → mark_of (cell_at now.memory q) ≡ 0
      by_mark q i t d zero e = e
      by_mark q i t d (suc zero) e = absurd (t (leads now p v.tree q (v.live q i e)))
      by_mark q i t d (suc (suc zero)) e = absurd (d (v.waiting_left q i e))
      by_mark q i t d (suc (suc (suc m))) e = let a = v.marks q i in absurd (let f : ⊥ = omega arith in f)

  live_count : with_mark 1 (drop 32 now.memory) ≡ count (whole p)
  live_count =
      marked_count now.memory 1 (whole p) v.stands.distinct
      (λ q h. let l = tree_live now p v.tree q h in (l.in_pool, live_mark now.memory q l)) v.live

  regions_count : count (whole p) ≡ length (set_of kd (history ts))
  regions_count = count_order (whole p) ∙ ap length v.spells

  pub at_rest : to_do (history ts) ≡ 0 → p.above ≡ []
  at_rest e = no_frames p.above (ap length (sym v.tree.path_pending) ∙ sym v.told ∙ e)

  balanced : to_do (history ts) ≡ 0 → Balanced (whole p)
  balanced e =
      subst Balanced (sym (ap (λ (fs : List (Frame ℕ (Region K))). plug fs p.under) (at_rest e))) v.stands.mending.below

  pub few_regions : count (whole p) ≤ 3968
  few_regions =
      let a = v.room in let b = v.as_many in let c = v.fit.range.most in let d = regions_count in omega arith

  pub gives : KeptBase kd z ts p
  gives = record {
    store_fit = v.fit;
    tree_stands = v.tree;
    tree_spells = v.spells;
    tree_distinct = v.stands.distinct;
    set_is_one = subst (λ (xs : List (Region K)). RegionSet (regions kd) xs) v.spells v.stands.set;
    others = others_stand;
    edit_told = v.told;
    none_14 = v.none_14;
    adds_up = marks_add_up now.memory v.marks ∙ ap (λ (n : ℕ). n - 32) v.as_many;
    live_are_regions = live_count ∙ regions_count;
    waiting_have_left = record {
      nodes = nodes_of now.memory 2;
      different = nodes_different now.memory 2;
      each = λ q h. let n = node_is now.memory 2 q h in v.waiting_left q n.0 n.1;
      every = λ q d. let n = left_in_pool q d in is_node now.memory 2 q n.0 n.1;
      many = nodes_many now.memory 2;
    };
    balanced_at_rest = balanced;
    low_at_rest = λ e. height_low (whole p) (balanced e) few_regions;
  }

pub inv_gives : {K F : Type 0} (kd : Kind K F) → InvGives kd
inv_gives kd z ts p v = gives kd z ts p v
