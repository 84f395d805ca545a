-- Once answered, a step tells the same again.
use Rattle.std.proofs.Common.{◌≡◌, ℕ, Bool, true, false, cond, eqb, List, Some, None, Ok, Err, Option, Result, sym, refl, ap, ◌∙◌, subst, arith}
use Rattle.store.specs.declared.node.Node.{Node}
use Rattle.store.specs.declared.fault.StoreFault.{StoreFault}
use Rattle.store.specs.Cells.{Cell, read_answer}
use Rattle.sessions.specs.declared.way.Way.{Way}
use Rattle.sessions.specs.declared.way.Way.TheVariants.{Left, Here, Right}
use Rattle.sessions.specs.declared.meeting.Met.{Met}
use Rattle.sessions.specs.declared.meeting.Met.TheVariants.{Blank, Holds, Leads}
use Rattle.sessions.specs.declared.lookup.Row.{Row}
use Rattle.store.specs.declared.node.Region.{Region}
use Rattle.sessions.specs.declared.lookup.State.TheVariants.{Going, Answered}
use Rattle.sessions.specs.declared.lookup.Call.TheVariants.{Step}
use Rattle.sessions.specs.declared.lookup.Told.{Told}
use Rattle.sessions.specs.declared.lookup.Told.TheVariants.{Found}
use Rattle.store.specs.Nodes.{region_of, link_number}
use Rattle.sessions.specs.Lookups.{Done, told, row_with, more, seat_of, met_by, met_seat, met_at, moved_by, found_again, told_again, done_by, row_done}
use Rattle.sessions.specs.Laws.{AnswersRepeat}

link_by : (b : Bool) (l n : ℕ) → cond b None (Some l) ≡ Some n → n ≡ l
link_by true l n e = let z : ◌≡◌ {A = ℕ} 0 1 = cc in let w : ⊥ = omega arith in elim w [ ]
link_by false l n e = cc

module _ {K : Type 0} where
  -- a link leads to no region by itself
  link_holds : (b : Bool) (l : ℕ) (r : Region K) → cond b Blank (Leads l) ≡ Holds r → ⊥
  link_holds true l r e = let z : ◌≡◌ {A = ℕ} 0 1 = cc in omega arith
  link_holds false l r e = let z : ◌≡◌ {A = ℕ} 0 1 = cc in omega arith

  by_way : (w : Way) (v : Node K) (r : Region K) → met_by w v ≡ Holds r → region_of v ≡ r
  by_way Left v r e = let z : ⊥ = link_holds (eqb v.left 0) v.left r e in elim z [ ]
  by_way Here v r e = cc
  by_way Right v r e = let z : ⊥ = link_holds (eqb v.right 0) v.right r e in elim z [ ]

  ok_is : (m m' : Met K) → ◌≡◌ {A = Result (Met K) StoreFault} (Ok m) (Ok m') → m ≡ m'
  ok_is m m' e = cc

  -- a region that was met is that of a node that was read
  pub record MetThere (cs : List (Cell K)) (o : Option ℕ) (r : Region K) : Type 0 where
    pub node : ℕ
    pub there : o ≡ Some node
    pub seen : Node K
    pub read : read_answer cs node ≡ Ok seen
    pub same : region_of seen ≡ r

  module _ (way : K → K → K → Way) (cs : List (Cell K)) (seat : ℕ) (r : Region K) where
    by_seat : (n : ℕ) (a b : Result (Node K) StoreFault) → read_answer cs n ≡ b → met_seat way a b ≡ Ok (Holds r) → MetThere cs (Some n) r
    by_seat n (Err e) b q h = let z : ◌≡◌ {A = ℕ} 0 1 = cc in let w : ⊥ = omega arith in elim w [ ]
    by_seat n (Ok own) (Err e) q h = let z : ◌≡◌ {A = ℕ} 0 1 = cc in let w : ⊥ = omega arith in elim w [ ]
    by_seat n (Ok own) (Ok v) q h =
        record { node = n; there = refl; seen = v; read = q; same = by_way (way own.low v.low v.high) v r (ok_is _ _ h) }

    met_there : (o : Option ℕ) → met_at way cs seat o ≡ Ok (Holds r) → MetThere cs o r
    met_there None h = let z : ◌≡◌ {A = ℕ} 0 1 = cc in let w : ⊥ = omega arith in elim w [ ]
    met_there (Some n) h = by_seat n (read_answer cs seat) (read_answer cs n) refl h

  module _ (way : K → K → K → Way) (filler : K) (cs ds : List (Cell K)) (s : ℕ) (row : Row) (t : Told K) where
    -- the node at the place can still be read, and has its region
    abbrev Stands : ℕ → Type 0
    Stands p = (u : Node K) → read_answer cs p ≡ Ok u → (v : Node K) × (read_answer ds p ≡ Ok v) × (region_of v ≡ region_of u)

    abbrev Repeats : Done Row K → Type 0
    Repeats first = first.answer ≡ Ok t → first.after.state ≡ Answered → Stands first.after.place →
        ((row_done way filler ds s first.after Step).answer ≡ Ok t) × ((row_done way filler ds s first.after Step).after ≡ first.after)

    found_there : (r : Region K) (k : ℕ) → MetThere cs (link_number row.place) r → Stands row.place →
        row_done way filler ds s (row_with Answered row.place k) Step ≡ told (row_with Answered row.place k) (Found r k)
    unfolding row_done
    found_there r k m stands =
        let after = row_with Answered row.place k in
        let here : m.node ≡ row.place = link_by (eqb row.place 0) row.place m.node m.there in
        let p = stands m.seen (ap (read_answer cs) (sym here) ∙ m.read) in
        ap (told_again ds after) m.there ∙ ap (λ n. found_again after (read_answer ds n)) here
        ∙ ap (found_again after) p.1 ∙ ap (λ x. told after (Found x k)) (p.2 ∙ m.same)

    by_met : (m : Result (Met K) StoreFault) → met_at way cs (seat_of s) (link_number row.place) ≡ m → Repeats (moved_by row m)
    unfolding row_done
    by_met (Err e) q a st stands = let z : ◌≡◌ {A = ℕ} 0 1 = cc in let w : ⊥ = omega arith in elim w [ ]
    by_met (Ok Blank) q a st stands = (a, refl)
    by_met (Ok (Holds r)) q a st stands =
        let e = found_there r (more row.steps) (met_there way cs (seat_of s) r (link_number row.place) q) stands in
        (ap (λ d. d.answer) e ∙ a, ap (λ d. d.after) e)
    by_met (Ok (Leads l)) q a st stands = let z : ◌≡◌ {A = ℕ} 0 1 = cc in let w : ⊥ = omega arith in elim w [ ]

    pub repeats : row.state ≡ Going → Repeats (row_done way filler cs s row Step)
    unfolding row_done
    repeats going =
        subst (λ st. Repeats (done_by way filler cs s st row Step)) (sym going)
        (by_met (met_at way cs (seat_of s) (link_number row.place)) refl)

pub answers_repeat : (K : Type 0) → AnswersRepeat K
answers_repeat K way filler cs ds s row t going a st stands = repeats way filler cs ds s row t going a st stands
