-- The node that holds a key.
use Rattle.std.proofs.Common.{◌≡◌, ℕ, Bool, List, None, Some, Ok, Err, Option, Result, refl, ap, ◌∙◌, subst, arith}
use Rattle.std.specs.Option.{ok_or}
use Rattle.store.specs.declared.node.Node.{Node}
use Rattle.store.specs.Cells.{Cell, read_answer}
use Rattle.stacks.specs.declared.numbers.Numbers.{Numbers}
use Rattle.stacks.specs.Held.{held}
use Rattle.drafts.specs.declared.link.Numbered.{Numbered}
use Rattle.drafts.proofs.Turning.{bind_at, bind_stop}
use Rattle.search.specs.declared.search.Sought.TheVariants.{Holder}
use Rattle.search.specs.Searches.{Way}
use Rattle.walks.specs.Walks.{numbered}
use Rattle.edits.specs.declared.fault.Doing.TheVariants.{Copy}
use Rattle.edits.specs.declared.fault.TreeFault.{TreeFault}
use Rattle.edits.specs.declared.fault.Refusal.{Refusal}
use Rattle.edits.specs.declared.fault.Refusal.TheVariants.{Missing, Refused}
use Rattle.edits.specs.Refusals.{during}
use Rattle.grafts.specs.Grafts.{holder, begun, Held, held_by}
use Rattle.grafts.specs.Drafted.{Holds}
use Rattle.grafts.proofs.Asking.{passed_ok, passed_err}

module _ {K : Type 0} (less : K → K → Bool) (k : K) (cs : List (Cell K)) (path : List ℕ) (root : ℕ) where
  pub hold_begun : (e y : Refusal) (r : Result (Numbers 27 × Numbered K) Refusal) → Err e ≡ begun less (Holder k) cs path root → r ≡ Err y → y ≡ e → Holds r (held_by less k cs path root)
  unfolding held_by
  hold_begun e y r h a b = subst (Holds r) (bind_stop _ e _ h) (a ∙ ap Err b)

  pub hold_missing : (w : Way) (e y : Refusal) (r : Result (Numbers 27 × Numbered K) Refusal) → Ok w ≡ begun less (Holder k) cs path root → Err e ≡ holder w.end → r ≡ Err y → y ≡ e →
      Holds r (held_by less k cs path root)
  unfolding held_by
  hold_missing w e y r h i a b = subst (Holds r) (bind_stop _ e _ i ∙ bind_at _ w _ h) (a ∙ ap Err b)

  pub hold_unread : (w : Way) (n : ℕ) (e : TreeFault) (y : Refusal) (r : Result (Numbers 27 × Numbered K) Refusal) → Ok w ≡ begun less (Holder k) cs path root → Ok n ≡ holder w.end →
      Err e ≡ during Copy (read_answer cs n) → r ≡ Err y → y ≡ Refused e → Holds r (held_by less k cs path root)
  unfolding held_by
  hold_unread w n e y r h i j a b =
      subst (Holds r) (bind_stop _ (Refused e) _ (passed_err Copy _ e j) ∙ bind_at _ n _ i ∙ bind_at _ w _ h) (a ∙ ap Err b)

  pub hold_done : (way : Numbers 27) (end : Option ℕ) (n : ℕ) (v : Node K) → Ok (record { passed = held way; end = end }) ≡ begun less (Holder k) cs path root → Ok n ≡ holder end →
      Ok v ≡ during Copy (read_answer cs n) → Holds (Ok (way, numbered n v)) (held_by less k cs path root)
  unfolding held_by
  hold_done way end n v h i j =
      subst (Holds (Ok (way, numbered n v))) (bind_at _ v _ (passed_ok Copy _ v j) ∙ bind_at _ n _ i ∙ bind_at _ (record { passed = held way; end = end }) _ h) (refl, refl)

-- a node that was found
pub holds_err : {K : Type 0} (e : Refusal) (told : Result (Held K) Refusal) → Holds (Err e) told → Err e ≡ told
holds_err e (Ok h) p = elim p [ ]
holds_err e (Err f) p = let q : e ≡ f = cc in ap Err q

pub holds_ok : {K : Type 0} (way : Numbers 27) (p : Numbered K) (told : Result (Held K) Refusal) → Holds (Ok (way, p)) told → Ok (record { way = held way; node = p }) ≡ told
holds_ok way p (Ok h) q = ap (λ z. Ok (record { way = z; node = p })) q.0 ∙ ap (λ z. Ok (record { way = h.way; node = z })) q.1
holds_ok way p (Err f) q = let z : ◌≡◌ {A = ℕ} 0 1 = cc in let u : ⊥ = omega arith in elim u [ ]

-- the end of a search for a key
pub held_end : (o : Option ℕ) → ok_or o Missing ≡ holder o
held_end None = refl
held_end (Some n) = refl
