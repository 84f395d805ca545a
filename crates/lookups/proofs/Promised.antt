-- What is promised of lookups, from what holds of every open lookup after each call.
use Rattle.std.proofs.Common.{◌≡◌, ℕ, zero, suc, ◌-◌, ◌<◌, ◌≤◌, Bool, true, false, ltb, leb, ◌⊎◌, List, length, Some, None, Option, sym, refl, ap, subst, inl, inr, arith, ltb-false, ltb-true, leb-false, leb-true}
use lib.ListN.{get_or-eq_default}
use Rattle.store.specs.declared.node.Region.{Region}
use Rattle.store.specs.Cells.{shut, mark_of, cell_at}
use Rattle.trees.specs.Regions.{Laws}
use Rattle.trees.specs.Edits.{Place, whole}
use Rattle.trees.specs.Paths.{In}
use Rattle.runs.specs.Calls.{Kind, regions}
use Rattle.runs.specs.Histories.{First, Lookup, lookup}
use Rattle.runs.specs.States.{State, Cells, row_of, pool, InPool, InTree}
use Rattle.runs.specs.Runs.{Turn, history, state, LeftDuring}
use Rattle.runs.specs.Promise.{OtherNodes, PlaceStands}
use Rattle.runs.proofs.Links.{in_leads}
use Rattle.lookups.specs.Ways.{Waits}
use Rattle.lookups.specs.Throughout.{RestKept, LookupsFollow}
use Rattle.lookups.proofs.Carries.{spelled_in_pool}
use Rattle.lookups.proofs.Steppings.{stands_at, few_steps}
use Rattle.lookups.proofs.Moments.{LeftSince}
use Rattle.lookups.proofs.Changes.{left_marked}
use Rattle.lookups.proofs.Invariant.{opened_since, HasFound, Goes, GoesOrAnswered, AnsweredAt, rest_now, all_stand}

module _ {K F : Type 0} (kd : Kind K F) (z : State (Cells K)) (ts : List (Turn (Cells K) K F)) where
  -- a node of mark 2 is in the pool: the seats have mark 3
  module _ (others : OtherNodes kd z ts) where
    pub two_past : (q : ℕ) → mark_of (cell_at (state z ts).memory q) ≡ 2 → 32 < q
    two_past zero m = absurd (let e = ap mark_of (others.seats 0 (omega arith)) in let f : ⊥ = omega arith in f)
    two_past (suc s) m = by_test (ltb s 32) refl
      where
        by_test : (b : Bool) → ltb s 32 ≡ b → 32 < suc s
        by_test true t = absurd (let e = ap mark_of (others.seats s (ltb-true s 32 t)) in let f : ⊥ = omega arith in f)
        by_test false t = let i = ltb-false s 32 t in omega arith

    pub two_inside : (q : ℕ) → mark_of (cell_at (state z ts).memory q) ≡ 2 → q ≤ length (state z ts).memory
    two_inside q m = by_test (leb q (length (state z ts).memory)) refl
      where
        by_test : (b : Bool) → leb q (length (state z ts).memory) ≡ b → q ≤ length (state z ts).memory
        by_test true t = leb-true q (length (state z ts).memory) t
        by_test false t =
            let i = leb-false q (length (state z ts).memory) t in
            let e = ap mark_of (get_or-eq_default (state z ts).memory (shut 0) {n = q - 1} (omega arith)) in
            absurd (let f : ⊥ = omega arith in f)

  module _ (p : Place ℕ (Region K)) (rest : RestKept kd z ts p) (s : ℕ) (l : Lookup K) (e : lookup s (history ts) ≡ Some l) where
    met_in_pool : (q : ℕ) → In q (whole p) ⊎ Waits (LeftSince z ts l.since) (whole p) q → InPool (state z ts).memory q
    met_in_pool q (inl i) = spelled_in_pool (state z ts).memory (state z ts).pending (state z ts).root (whole p) q rest.tree_stands.spelled i
    met_in_pool q (inr w) =
        let m = left_marked kd z ts p s l.since rest (opened_since kd s l (history ts) e) q w.held in
        record { past_seats = two_past rest.others q m; inside = two_inside rest.others q m }

    found_stands : (q : ℕ) (x : Region K) → HasFound kd z ts p l.since q x → PlaceStands kd z ts q
    found_stands q x f = inr (f.there, f.can_be_read, by_place f.stands)
      where
        by_place : In q (whole p) ⊎ Waits (LeftSince z ts l.since) (whole p) q → InTree (state z ts) q ⊎ LeftDuring z ts q
        by_place (inl i) = inl (in_leads (state z ts).memory (state z ts).pending (state z ts).root q (whole p) rest.tree_stands.spelled i)
        by_place (inr w) = inr (record {
          moment = w.held.moment;
          session = s;
          left = w.held.left;
          still_open = opened_since kd s l (history ts) e w.held.moment w.held.not_before;
        })

    place_stands : (o : Option (First K)) → GoesOrAnswered kd z ts p s l o → PlaceStands kd z ts (row_of (state z ts) s).place
    place_stands None g = by_place (row_of (state z ts) s).place refl
      where
        by_place : (q : ℕ) → q ≡ (row_of (state z ts) s).place → PlaceStands kd z ts (row_of (state z ts) s).place
        by_place zero d = inl (sym d)
        by_place (suc q) d =
            let f = stands_at _ _ _ (state z ts).memory (whole p) (row_of (state z ts) s).place g.seen g.going (omega arith) in
            found_stands (row_of (state z ts) s).place f.0 f.1
    place_stands (Some f) g = by_gave f.gave g.at_place
      where
        by_gave : (x : Option (Region K)) → AnsweredAt kd z ts p s l x → PlaceStands kd z ts (row_of (state z ts) s).place
        by_gave None d = inl d
        by_gave (Some x) d = found_stands (row_of (state z ts) s).place x d

    ends : Goes kd z ts p s l → pool z.memory ≤ l.steps → ⊥
    ends g h =
        let many = rest.others.as_many in
        let least = rest.store_fit.range.least in
        let few = few_steps _ _ _ (state z ts).memory (whole p) (row_of (state z ts) s).place g.seen g.going met_in_pool (omega arith) in
        let n = g.as_many in
        omega arith

pub lookups_follow : {K F : Type 0} (kd : Kind K F) → Laws (regions kd) → LookupsFollow kd
lookups_follow kd laws z ts p r =
    let all = all_stand kd laws z ts p r in
    let rest = rest_now kd z ts p r in
    record {
      lookups_true = λ s l f e d. (subst (GoesOrAnswered kd z ts p s l) d (all.each s l e).so).true_at;
      places_stand = λ s l e. place_stands kd z ts p rest s l e l.first (all.each s l e).so;
      lookups_end = λ s l e h d. ends kd z ts p rest s l e (subst (GoesOrAnswered kd z ts p s l) d (all.each s l e).so) h;
    }
