-- What follows from the invariant for those who use it.
use Rattle.std.proofs.Common.{◌≡◌, ℕ, suc, ◌<◌, ◌≤◌, true, false, T, eqb, ◌⊎◌, List, [], ◌∷◌, length, Some, None, Option, sym, refl, ap, ◌∙◌, subst, inl, inr, arith, eq-eqb}
use native.Mathlib.Decide.{dec_le}
use Rattle.store.specs.Cells.{readable}
use Rattle.store.specs.Nodes.{plain}
use Rattle.store.specs.declared.node.Region.{Region}
use Rattle.trees.specs.Edits.{Place}
use Rattle.runs.specs.declared.call.Refusal.TheVariants.{FewFree}
use Rattle.runs.specs.Calls.{Kind}
use Rattle.runs.specs.Histories.{First, Lookup, lookup, begun_by}
use Rattle.runs.specs.States.{State, Cells, Row, row_of, member, waiting_nodes}
use Rattle.runs.specs.Runs.{Turn, history, state}
use Rattle.runs.proofs.Lines.{line_13, needs_at_most}
use Rattle.runs.proofs.Marks.{or_first}
use Rattle.moments.specs.Invariant.{has_one, in_use, RowOfOpen, RowFits, scene_at, Inv}
use Rattle.moments.specs.Theorems.{AllClosed, ClosingFrees, ThirteenOnlyWhileOpen, RowsTell, OpenSeated}
use Rattle.moments.proofs.Counts.{nodes_of, nodes_many, node_is}
use Rattle.moments.proofs.Gives.{gives}
use Rattle.moments.proofs.Told.{history_length, lookup_begun, bits_same, bits_pick}
use Rattle.moments.proofs.Edits.{has_is}

-- ROWS

row_tells : {K : Type 0} (o : Option (Lookup K)) (w : Row) → RowFits o w → in_use w.stage ≡ has_one o
row_tells None w h = ap in_use h
row_tells (Some l) w h = by_first l.first h
  where
    by_first : (f : Option (First _)) → RowOfOpen l f w → in_use w.stage ≡ true
    by_first None g = ap in_use g.0
    by_first (Some f) g = ap in_use g.0

pub rows_tell : {K F : Type 0} (kd : Kind K F) → RowsTell kd
rows_tell kd z ts p v =
    bits_same (λ s. in_use (row_of (state z ts) s).stage) (λ s. has_one (lookup s (history ts))) 32
    (λ s l. row_tells (lookup s (history ts)) (row_of (state z ts) s) (v.rows s))

pub open_seated : {K F : Type 0} (kd : Kind K F) → OpenSeated kd
open_seated {K} kd z ts p s l v e =
    let b = lookup_begun kd.filler s (history ts) l e in
    let n = v.sessions s l e in
    let i = b.0 in
    let m = history_length ts in
    record {
      session = n;
      formed = v.formed s l e;
      seat = v.seats s n ∙ ap (λ (k : K). readable (plain 3 k kd.filler)) (sym b.1);
      begun = omega arith;
    }

-- NODES TO TAKE

first_member : (ns : List ℕ) → 1 ≤ length ns → (n : ℕ) × T (member n ns)
first_member [] h = absurd (let f : ⊥ = omega arith in f)
first_member (n ∷ ns) h = (n, or_first (eqb n n) (member n ns) (eq-eqb n n refl))

no_lookup : {K : Type 0} (o : Option (Lookup K)) → has_one o ≡ false → o ≡ None
no_lookup None e = refl
no_lookup (Some l) e = absurd (let z : ◌≡◌ {A = ℕ} 0 1 = cc in let f : ⊥ = omega arith in f)

module _ {K F : Type 0} (kd : Kind K F) (z : State (Cells K)) (ts : List (Turn (Cells K) K F)) (p : Place ℕ (Region K)) (v : Inv kd z ts p) where
  abbrev cs : Cells K
  cs = (state z ts).memory

  -- a node that waits does so for an open lookup
  waits_for_one : ((s : ℕ) → lookup s (history ts) ≡ None) → 1 ≤ waiting_nodes cs → ⊥
  waits_for_one none h =
      let m = nodes_many cs 2 in
      let n = first_member (nodes_of cs 2) (omega arith) in
      let i = node_is cs 2 n.0 n.1 in
      let d = v.waiting_left n.0 i.0 i.1 in
      subst T (ap (begun_by d.moment) (none d.session)) d.still_open

  all_closed : ((s : ℕ) → lookup s (history ts) ≡ None) → AllClosed kd z ts
  all_closed none =
      let zero-wait : waiting_nodes cs ≡ 0 = by_many (dec_le 1 (waiting_nodes cs)) in
      let g = gives kd z ts p v in
      let a = g.adds_up in
      let b = g.live_are_regions in
      let r = v.room in
      let f = v.fit.range.least in
      let l = v.as_many in
      record { none_waits = zero-wait; rest_is_free = omega arith; enough = omega arith }
    where
      by_many : Dec (1 ≤ waiting_nodes cs) → waiting_nodes cs ≡ 0
      by_many (yes h) = absurd (waits_for_one none h)
      by_many (no h) = omega arith

  -- a session has a lookup, or none has
  one_open : ((s : ℕ) → lookup s (history ts) ≡ None) ⊎ ((s : ℕ) × (l : Lookup K) × (lookup s (history ts) ≡ Some l))
  one_open = by_pick (bits_pick (λ s. has_one (lookup s (history ts))) 32)
    where
      by_pick :
          ((s : ℕ) → s < 32 → has_one (lookup s (history ts)) ≡ false) ⊎ ((s : ℕ) × (s < 32) × (has_one (lookup s (history ts)) ≡ true)) →
          ((s : ℕ) → lookup s (history ts) ≡ None) ⊎ ((s : ℕ) × (l : Lookup K) × (lookup s (history ts) ≡ Some l))
      by_pick (inr some) = let l = has_is (lookup some.0 (history ts)) some.2 in inr (some.0, l.0, l.1)
      by_pick (inl none) = inl (λ s. by_session s (dec_le (suc s) 32) (lookup s (history ts)) refl)
        where
          by_session : (s : ℕ) → Dec (s < 32) → (o : Option (Lookup K)) → lookup s (history ts) ≡ o → lookup s (history ts) ≡ None
          by_session s (yes l) o e = no_lookup (lookup s (history ts)) (none s l)
          by_session s (no n) None e = e
          by_session s (no n) (Some l) e = absurd (n (v.sessions s l e))

pub closing_frees : {K F : Type 0} (kd : Kind K F) → ClosingFrees kd
closing_frees kd z ts p v none = all_closed kd z ts p v none

pub thirteen_only_while_open : {K F : Type 0} (kd : Kind K F) → ThirteenOnlyWhileOpen kd
thirteen_only_while_open kd z ts p c y p' v ex =
    elim (one_open kd z ts p v) [
      | inr some ↦ some
      | inl none ↦
          let free = (all_closed kd z ts p v none).enough in
          let few = line_13 kd (scene_at kd z ts p) c FewFree (ex.refused_by FewFree refl).fits refl in
          let most = needs_at_most kd c p in
          absurd (let f : ⊥ = omega arith in f)
    ]
