-- What is asked before anything is drafted.
use Rattle.std.proofs.Common.{◌≡◌, ℕ, ◌-◌, ◌<◌, ◌≤◌, cond, leb, List, length, Ok, Err, Result, sym, ap, ◌∙◌, subst, arith}
use Rattle.std.proofs.lemmas.Bool.{lt-ltb, le-ltb, le-leb, lt-leb}
use Rattle.store.specs.declared.fault.StoreFault.{StoreFault}
use Rattle.store.specs.Cells.{Cell}
use Rattle.store.specs.Nodes.{link_number}
use Rattle.drafts.proofs.Turning.{bind_at, bind_stop}
use Rattle.search.specs.declared.free.Found.{Found}
use Rattle.search.specs.Frees.{Finds, free_count, found_of, Chosen}
use Rattle.edits.specs.declared.fault.Doing.{Doing}
use Rattle.edits.specs.declared.fault.Doing.TheVariants.{Copy}
use Rattle.edits.specs.declared.fault.TreeFault.{TreeFault}
use Rattle.edits.specs.declared.fault.Refusal.TheVariants.{Full, Crowded, Refused}
use Rattle.edits.specs.Refusals.{during, refused_in}
use Rattle.edits.proofs.Rotating.{during_ok, during_err, unused}
use Rattle.grafts.specs.Grafts.{size_by, room_at, free_for}
use Rattle.grafts.specs.Drafted.{Ready}

-- what a store answered, as an edit passes it on
pub passed_ok : {T : Type 0} (k : Doing) (r : Result T StoreFault) (x : T) → Ok x ≡ during k r → Ok x ≡ refused_in k r
unfolding refused_in
passed_ok k r x e = let q = during_ok k r x e in rw q

pub passed_err : {T : Type 0} (k : Doing) (r : Result T StoreFault) (e : TreeFault) → Err e ≡ during k r → Err (Refused e) ≡ refused_in k r
unfolding refused_in
passed_err k (Ok x) e h = let z : ◌≡◌ {A = ℕ} 0 1 = cc in let w : ⊥ = omega arith in elim w [ ]
passed_err k (Err f) e h = let q = during_err k (Err f) e h in let i : q.0 ≡ f = let j = q.1 in cc in ap (λ x. Err (Refused x)) (q.2 ∙ ap (λ x. record { doing = k; fault = x }) i)

-- the same where the answer was read as another one
pub stopped_as : {A B : Type 0} (k : Doing) (r : Result A StoreFault) (t : Result B StoreFault) (e : TreeFault) → ((x : StoreFault) → r ≡ Err x → Err x ≡ t) → Err e ≡ during k r → Err (Refused e) ≡ refused_in k t
unfolding refused_in
stopped_as k r t e f h = let q = during_err k r e h in ap (λ x. Err (Refused x)) q.2 ∙ ap (refused_in k) (f q.0 q.1)

pub unpassed : {T : Type 0} (k : Doing) (r : Result T StoreFault) (x : T) → Ok x ≡ refused_in k r → Ok x ≡ r
unfolding refused_in
unpassed k (Ok y) x e = let q : x ≡ y = cc in ap Ok q
unpassed k (Err f) x e = let z : ◌≡◌ {A = ℕ} 0 1 = cc in let w : ⊥ = omega arith in elim w [ ]

module _ {K : Type 0} (cs : List (Cell K)) where
  pub room_unread : (root : ℕ) (r : Result ℕ StoreFault) (e : TreeFault) → r ≡ size_by cs (link_number root) → Err e ≡ during Copy r → Err (Refused e) ≡ room_at cs root
  unfolding room_at
  room_unread root r e a h = bind_stop _ (Refused e) _ (passed_err Copy r e h ∙ ap (refused_in Copy) a)

  room_sized : (root size : ℕ) (r : Result ℕ StoreFault) → r ≡ size_by cs (link_number root) → Ok size ≡ during Copy r →
      cond (leb (length cs - 128) size) (Err Full) (Ok tt) ≡ room_at cs root
  unfolding room_at
  room_sized root size r a h = bind_at _ size _ (passed_ok Copy r size h ∙ ap (refused_in Copy) a)

  pub room_full : (root size N : ℕ) (r : Result ℕ StoreFault) → r ≡ size_by cs (link_number root) → Ok size ≡ during Copy r → N ≡ length cs - 128 → N ≤ size → Err Full ≡ room_at cs root
  room_full root size N r a h n l = ap (λ b. cond b (Err Full) (Ok tt)) (sym (le-leb (length cs - 128) size (omega arith))) ∙ room_sized root size r a h

  pub room_left : (root size N : ℕ) (r : Result ℕ StoreFault) → r ≡ size_by cs (link_number root) → Ok size ≡ during Copy r → N ≡ length cs - 128 → size < N → Ok tt ≡ room_at cs root
  room_left root size N r a h n l = ap (λ b. cond b (Err Full) (Ok tt)) (sym (lt-leb (length cs - 128) size (omega arith))) ∙ room_sized root size r a h

  pub few_free : (want : ℕ) (ns : List ℕ) → Finds cs want ns → length ns < want → Err Crowded ≡ free_for cs want
  unfolding free_for
  few_free want ns f l = let h : free_count cs < want = omega (arith, f.many) in rw (lt-ltb (free_count cs) want h)

  pub free_found : (want : ℕ) (f : Found) → want ≤ 96 → Finds cs want (found_of f) → f.used ≡ 0 → want ≤ length (found_of f) → Ready cs want f
  unfolding free_for
  free_found want f w q u h =
      let l : want ≤ free_count cs = omega (arith, q.many) in
      let e = unused f u in
      record {
        asked = rw (le-ltb (free_count cs) want l);
        chosen = subst (Chosen cs) (sym e) q.chosen;
        many = ap length e ∙ omega (arith, q.many);
      }
