-- The way down with which an edit begins, and the link with which it ends.
use Rattle.std.proofs.Common.{◌≡◌, ℕ, ◌-◌, ◌≤◌, Bool, List, [], length, Some, None, Ok, Err, Option, Result, refl, ap, ◌∙◌, subst, arith}
use Rattle.store.specs.declared.node.Node.{Node}
use Rattle.store.specs.declared.fault.StoreFault.{StoreFault}
use Rattle.store.specs.Cells.{Cell, read_answer}
use Rattle.std.specs.Option.{unwrap_or}
use Rattle.stacks.specs.declared.numbers.Numbers.{Numbers}
use Rattle.stacks.specs.Held.{held}
use Rattle.drafts.specs.declared.link.Lean.{Lean}
use Rattle.drafts.specs.declared.link.Lean.TheVariants.{Right}
use Rattle.drafts.specs.Grown.{bind}
use Rattle.drafts.proofs.Turning.{bind_at, bind_stop}
use Rattle.search.specs.declared.search.Sought.{Sought}
use Rattle.search.specs.Paths.{lowest}
use Rattle.search.specs.Searches.{Way, side_for, descended, Reaches}
use Rattle.commits.specs.declared.writes.Joint.{Joint}
use Rattle.commits.specs.Commits.{Writes, AllInside, news, placed, root_after, committed, GoneInside, JointInside}
use Rattle.commits.proofs.Bounds.{bind_inv, read_from}
use Rattle.commits.proofs.Fallings.{committed_inside}
use Rattle.walks.specs.Walks.{Graft, numbered}
use Rattle.edits.specs.declared.fault.Doing.TheVariants.{Search, Copy}
use Rattle.edits.specs.declared.fault.TreeFault.{TreeFault}
use Rattle.edits.specs.declared.fault.Refusal.{Refusal}
use Rattle.edits.specs.declared.fault.Refusal.TheVariants.{Refused}
use Rattle.edits.specs.Refusals.{during, refused_in}
use Rattle.edits.specs.Calls.{Ends, Within}
use Rattle.grafts.specs.Grafts.{graft_change, rest_at, way_side, joint_from, joint_for, grafted, begun}
use Rattle.grafts.specs.Drafted.{Begins}
use Rattle.grafts.proofs.Asking.{passed_ok, passed_err, unpassed}

-- THE WAY DOWN

module _ (way : Numbers 27) where
  stopped : (told : Result Way StoreFault) (got : Result (Option ℕ) StoreFault) (e : TreeFault) (y : Refusal) (r : Result (Numbers 27 × Option ℕ) Refusal) → Reaches [] (held way) got told → Err e ≡ during Search got →
      r ≡ Err y → y ≡ Refused e → Begins r (refused_in Search told)
  unfolding refused_in
  stopped (Ok w) got e y r p h a b = let q = h ∙ ap (during Search) p.0 in let z : ◌≡◌ {A = ℕ} 0 1 = cc in let u : ⊥ = omega arith in elim u [ ]
  stopped (Err f) got e y r p h a b =
      let i : ◌≡◌ {A = Result (Option ℕ) Refusal} (Err (Refused e)) (Err (Refused (record { doing = Search; fault = f }))) = passed_err Search (Err f) e (h ∙ ap (during Search) p) in
      let q : Refused e ≡ Refused (record { doing = Search; fault = f }) = cc in
      a ∙ ap Err (b ∙ q)

  arrived : (told : Result Way StoreFault) (got : Result (Option ℕ) StoreFault) (end : Option ℕ) → Reaches [] (held way) got told → Ok end ≡ during Search got → Begins (Ok (way, end)) (refused_in Search told)
  unfolding refused_in
  arrived (Ok w) got end p h =
      let q = passed_ok Search (Ok w.end) end (h ∙ ap (during Search) p.0) in
      let e : end ≡ w.end = cc in
      (p.1, e)
  arrived (Err f) got end p h = let q = h ∙ ap (during Search) p in let z : ◌≡◌ {A = ℕ} 0 1 = cc in let u : ⊥ = omega arith in elim u [ ]

module _ {K : Type 0} (less : K → K → Bool) (x : Sought K) (cs : List (Cell K)) (path : List ℕ) (root : ℕ) where
  pub begin_busy : (e y : Refusal) (r : Result (Numbers 27 × Option ℕ) Refusal) → Err e ≡ rest_at path → r ≡ Err y → y ≡ e → Begins r (begun less x cs path root)
  unfolding begun
  begin_busy e y r h a b = subst (Begins r) (bind_stop (rest_at path) e _ h) (a ∙ ap Err b)

  from_none : (h way : List ℕ) (got : Result (Option ℕ) StoreFault) → h ≡ [] → Reaches h way got (descended less x cs (27 - length h) root) → Reaches [] way got (descended less x cs 27 root)
  from_none h way got e p = subst (λ z. Reaches z way got (descended less x cs (27 - length z) root)) e p

  rested : Ok tt ≡ rest_at path → refused_in Search (descended less x cs 27 root) ≡ begun less x cs path root
  unfolding begun
  rested o = bind_at (rest_at path) tt _ o

  pub begin_stopped : (h : List ℕ) (way : Numbers 27) (got : Result (Option ℕ) StoreFault) (e : TreeFault) (y : Refusal) (r : Result (Numbers 27 × Option ℕ) Refusal) → Ok tt ≡ rest_at path → h ≡ [] →
      Reaches h (held way) got (descended less x cs (27 - length h) root) → Err e ≡ during Search got → r ≡ Err y → y ≡ Refused e → Begins r (begun less x cs path root)
  begin_stopped h way got e y r o n p d a b = subst (Begins r) (rested o) (stopped way _ got e y r (from_none h (held way) got n p) d a b)

  pub begin_done : (h : List ℕ) (way : Numbers 27) (got : Result (Option ℕ) StoreFault) (end : Option ℕ) → Ok tt ≡ rest_at path → h ≡ [] →
      Reaches h (held way) got (descended less x cs (27 - length h) root) → Ok end ≡ during Search got → Begins (Ok (way, end)) (begun less x cs path root)
  begin_done h way got end o n p d = subst (Begins (Ok (way, end))) (rested o) (arrived way _ got end (from_none h (held way) got n p) d)

-- THE LINK

side_left : (o : Option Lean) → unwrap_or o Right ≡ way_side o
side_left None = refl
side_left (Some s) = refl

module _ {K : Type 0} (less : K → K → Bool) (x : Sought K) (cs : List (Cell K)) (way : List ℕ) where
  pub joint_root : None ≡ lowest way → Ok None ≡ joint_for less x cs way
  unfolding joint_for
  joint_root e = ap (joint_from less x cs) e

  pub joint_unread : (p : ℕ) (e y : StoreFault) (r : Result (Option (Joint K)) StoreFault) → Some p ≡ lowest way → Err e ≡ read_answer cs p → r ≡ Err y → y ≡ e → r ≡ joint_for less x cs way
  unfolding joint_for
  joint_unread p e y r a b q h = q ∙ ap Err h ∙ bind_stop (read_answer cs p) e _ b ∙ ap (joint_from less x cs) a

  pub joint_under : (p : ℕ) (v : Node K) (o : Option Lean) (s : Lean) → Some p ≡ lowest way → Ok v ≡ read_answer cs p → o ≡ side_for less x v → s ≡ unwrap_or o Right →
      Ok (Some (record { above = numbered p v; side = s })) ≡ joint_for less x cs way
  unfolding joint_for
  joint_under p v o s a b e f =
      ap (λ t. Ok (Some (record { above = numbered p v; side = t }))) (f ∙ side_left o ∙ ap way_side e) ∙ bind_at (read_answer cs p) v _ b ∙ ap (joint_from less x cs) a

  from_inside : (o : Option ℕ) (j : Option (Joint K)) → Ok j ≡ joint_from less x cs o → JointInside (length cs) j
  from_inside None j e = let q : None ≡ j = cc in subst (JointInside (length cs)) q tt
  from_inside (Some p) j e =
      let i = bind_inv _ _ j e in
      let q : Some (record { above = numbered p i.0; side = way_side (side_for less x i.0) }) ≡ j = let f = i.2 in cc in
      subst (JointInside (length cs)) q (read_from cs p i.0 i.1)

  pub joint_inside : (j : Option (Joint K)) → Ok j ≡ joint_for less x cs way → JointInside (length cs) j
  unfolding joint_for
  joint_inside j e = from_inside (lowest way) j e

  module _ (root sessions : ℕ) (ns : List ℕ) (g : Graft K) where
    inside_by :
        (m : Result (Option (Joint K)) Refusal) → m ≡ refused_in Copy (joint_for less x cs way) → news g.side ≤ length ns → AllInside (length cs) ns → GoneInside (length cs) g.gone →
        Within (length cs) (bind m (λ j. Ok (graft_change way root sessions ns g j)))
    inside_by (Ok j) e h a b = committed_inside (length cs) j g.side ns sessions g.gone h a (joint_inside j (unpassed Copy (joint_for less x cs way) j e)) b
    inside_by (Err y) e h a b = tt

    -- every write of it falls on a node of the store
    pub graft_inside : news g.side ≤ length ns → AllInside (length cs) ns → GoneInside (length cs) g.gone → Within (length cs) (grafted less x cs way root sessions ns g)
    unfolding grafted
    graft_inside h a b = inside_by (refused_in Copy (joint_for less x cs way)) refl h a b

    pub graft_stopped : (path : List ℕ) (got : Result (Option (Joint K)) StoreFault) (e : TreeFault) (y : Refusal) (r : Result ℕ Refusal) → got ≡ joint_for less x cs way → Err e ≡ during Copy got →
        r ≡ Err y → y ≡ Refused e → Ends cs cs path path root root r (grafted less x cs way root sessions ns g)
    unfolding grafted
    graft_stopped path got e y r h d a b =
        subst (Ends cs cs path path root root r) (bind_stop _ (Refused e) _ (passed_err Copy got e d ∙ ap (refused_in Copy) h)) (a ∙ ap Err b, refl, refl, refl)

    pub graft_done : (path path' : List ℕ) (ds : List (Cell K)) (root' k : ℕ) (got : Result (Option (Joint K)) StoreFault) (j : Option (Joint K)) → got ≡ joint_for less x cs way → Ok j ≡ during Copy got →
        path' ≡ way → k ≡ length way → root' ≡ root_after j (placed g.side ns).top root → Writes cs (committed j (placed g.side ns) sessions g.gone) ds →
        Ends cs ds path path' root root' (Ok k) (grafted less x cs way root sessions ns g)
    unfolding grafted
    graft_done path path' ds root' k got j h d p q u v =
        subst (Ends cs ds path path' root root' (Ok k)) (bind_at _ j _ (passed_ok Copy got j d ∙ ap (refused_in Copy) h)) (ap Ok q, p, u, v)
