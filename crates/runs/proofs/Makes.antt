-- The making meets the promise.
use Rattle.store.specs.Nodes.{plain}
use Rattle.std.proofs.Common.{◌≡◌, ℕ, zero, suc, ◌+◌, ◌-◌, ◌<◌, ◌≤◌, false, eqb, [], ◌∷◌, ◌++◌, length, get_or, Some, None, Option, sym, refl, ap, ◌∙◌, subst, inl, inr, not-suc-le-zero, arith, length-append, get_or-append-add}
use lib.ListN.{get_or-append, get_or-replicate}
use Rattle.store.specs.Cells.{Cell, shut, readable, mark_of, cell_at}
use Rattle.store.specs.Fits.{FitCells}
use Rattle.trees.specs.Trees.{leaf}
use Rattle.trees.specs.Edits.{place}
use Rattle.runs.specs.Calls.{Kind}
use Rattle.runs.specs.Histories.{Lookup}
use Rattle.runs.specs.States.{State, Cells, pool, with_mark, live_nodes, waiting_nodes, free_nodes, TreeAt, Fresh, AllFresh, fresh_seats, JustMade}
use Rattle.runs.specs.Teeth.{MakingKeeps}

module _ {K : Type 0} (filler : K) where
  fresh_mark : (c : Cell K) → Fresh filler c → mark_of c ≡ 0
  fresh_mark c (inl e) = ap mark_of e
  fresh_mark c (inr e) = ap mark_of e

  pub none_marked : (m : ℕ) (cs : Cells K) → AllFresh filler cs → eqb 0 m ≡ false → with_mark m cs ≡ 0
  none_marked m [] a h = refl
  none_marked m (c ∷ cs) a h = rw (fresh_mark c a.0, h, none_marked m cs a.1 h)

  pub all_marked : (cs : Cells K) → AllFresh filler cs → with_mark 0 cs ≡ length cs
  all_marked [] a = refl
  all_marked (c ∷ cs) a = rw (fresh_mark c a.0, all_marked cs a.1) (omega arith)

  fresh_at : (cs : Cells K) → AllFresh filler cs → (i : ℕ) → mark_of (get_or cs i (shut 0)) ≡ 0
  fresh_at [] a i = refl
  fresh_at (c ∷ cs) a zero = fresh_mark c a.0
  fresh_at (c ∷ cs) a (suc i) = fresh_at cs a.1 i

  abbrev start : Cells K
  start = fresh_seats filler

  sums : (p : Cells K) → AllFresh filler p → live_nodes (start ++ p) + waiting_nodes (start ++ p) + free_nodes (start ++ p) ≡ pool (start ++ p)
  sums p a = rw (none_marked 1 p a refl, none_marked 2 p a refl, all_marked p a) (omega arith)

  pub seat_at : (p : Cells K) (s : ℕ) → s < 32 → cell_at (start ++ p) (suc s) ≡ readable (plain 3 filler filler)
  seat_at p s h =
      let e : suc s - 1 ≡ s = omega arith in
      ap (λ (k : ℕ). get_or (start ++ p) k (shut 0)) e ∙ get_or-append start p (shut 0) s h ∙
      get_or-replicate 32 s (readable (plain 3 filler filler)) (shut 0) h

  pub rest_at : (p : Cells K) → AllFresh filler p → (q : ℕ) → 32 < q → mark_of (cell_at (start ++ p) q) ≡ 0
  rest_at p a q h =
      let e : q - 1 ≡ 32 + (q - 33) = omega arith in
      ap (λ (k : ℕ). mark_of (get_or (start ++ p) k (shut 0))) e ∙ ap mark_of (get_or-append-add start p (q - 33) (shut 0)) ∙ fresh_at p a (q - 33)

  -- the empty tree is the tree of a catalogue just made
  pub empty_tree : (z : State (Cells K)) → JustMade filler z → TreeAt z (place [] leaf)
  empty_tree z made = record { spelled = made.no_tree; path_pending = made.at_rest }

  pub many_free : (z : State (Cells K)) → JustMade filler z → FitCells z.memory → 1 ≤ free_nodes z.memory
  many_free z made fit =
      let p = made.pool_cells in
      let e : free_nodes z.memory ≡ length p = ap free_nodes made.every_node ∙ all_marked p made.all_free in
      let m : length z.memory ≡ 32 + length p = ap length made.every_node ∙ length-append start p in
      let f = fit.range.least in
      omega arith

module _ {K F : Type 0} (kd : Kind K F) where
  no_lookup : (l : Lookup K) → ◌≡◌ {A = Option (Lookup K)} None (Some l) → ⊥
  no_lookup l e = let z : ◌≡◌ {A = ℕ} 0 1 = cc in omega arith

  pub making_keeps : MakingKeeps kd
  making_keeps z made fit =
      let p = made.pool_cells in
      let fresh = made.all_free in
      record {
        store_fit = fit;
        place = place [] leaf;
        tree_stands = empty_tree kd.filler z made;
        tree_spells = refl;
        tree_distinct = λ q. omega arith;
        set_is_one = tt;
        exact = tt;
        others = record {
          as_many = refl;
          seats = λ s h. ap (λ (cs : Cells K). cell_at cs (suc s)) made.every_node ∙ seat_at kd.filler p s h;
          waits = λ q i s l o. absurd (not-suc-le-zero l.within);
          rest_free = λ q h t d. ap (λ (cs : Cells K). mark_of (cell_at cs q)) made.every_node ∙ rest_at kd.filler p fresh q h.past_seats;
        };
        edit_told = sym (ap length made.at_rest);
        lookups_true = λ s l f e g. absurd (no_lookup l e);
        none_14 = tt;
        places_stand = λ s l e. absurd (no_lookup l e);
        lookups_end = λ s l e h g. no_lookup l e;
        adds_up =
            subst (λ (cs : Cells K). live_nodes cs + waiting_nodes cs + free_nodes cs ≡ pool cs) (sym made.every_node) (sums kd.filler p fresh);
        live_are_regions = ap live_nodes made.every_node ∙ none_marked kd.filler 1 p fresh refl;
        waiting_have_left = record {
          nodes = [];
          different = tt;
          each = λ q h. absurd h;
          every = λ q l. absurd (not-suc-le-zero l.left.within);
          many = sym (ap waiting_nodes made.every_node ∙ none_marked kd.filler 2 p fresh refl);
        };
        balanced_at_rest = λ e. tt;
        low_at_rest = λ e. omega arith;
      }
