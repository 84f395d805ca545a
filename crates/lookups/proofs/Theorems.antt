-- The theorems on lookups, from the lemmas for any nodes that are held and anything that was given.
use Rattle.std.proofs.Common.{◌≡◌, ℕ, zero, suc, ◌≤◌, T, ◌⊎◌, Option, sym, refl, ◌∙◌, subst, inl, inr, arith}
use Rattle.store.specs.declared.node.Region.{Region}
use Rattle.trees.specs.Regions.{Laws}
use Rattle.trees.specs.Trees.{found, seek}
use Rattle.trees.specs.Edits.{Place, whole}
use Rattle.trees.specs.Paths.{In, Distinct}
use Rattle.trees.proofs.Spells.{set_finds}
use Rattle.runs.specs.Calls.{Kind, regions}
use Rattle.runs.specs.States.{State, Cells, InPool}
use Rattle.lookups.specs.Ways.{Waits, FoundAt}
use Rattle.lookups.specs.Theorems.{Given, Moment, Opens, EditCarries, OthersCarry, StepCarries, StepsEnd, EditKeepsFound, OthersKeepFound}
use Rattle.lookups.proofs.Goings.{opens}
use Rattle.lookups.proofs.Carries.{path_same, order_same, regions_same, tree_stays, carried, found_carried, spelled_in_pool}
use Rattle.lookups.proofs.Steppings.{stepped, few_steps, stands_at}

later : {R : Type 0} (gave : ℕ → Option R) (since now : ℕ) (o : Option R) → Given gave since now o → Given gave since (suc now) o
later gave since now o g =
    record { moment = g.moment; not_before = g.not_before; not_after = (let i = g.not_after in omega arith); given_then = g.given_then }

module _ {K F : Type 0} (kd : Kind K F) (laws : Laws (regions kd)) where
  -- what the search finds is what the set gives now
  given_now :
      (gave : ℕ → Option (Region K)) (since now : ℕ) (k : K) (z : State (Cells K)) (p : Place ℕ (Region K)) → Moment kd gave now k z p → since ≤ now →
      Given gave since now (found (seek (regions kd) k) (whole p))
  given_now gave since now k z p m i = record {
    moment = now;
    not_before = i;
    not_after = omega arith;
    given_then = m.gives_now ∙ sym (set_finds (regions kd) laws (whole p) k m.stands.set m.key_formed);
  }

  pub lookup_opens : Opens kd
  lookup_opens held gave now k z p m =
      opens _ _ _ z.memory z.pending z.root (whole p) m.tree.spelled m.stands.distinct (given_now gave now now k z p m (omega arith))

  pub edit_carries : EditCarries kd
  edit_carries held held' gave since now k e z y p p' link seen m i s tree h going =
      carried _ _ z.memory y.memory (whole p) (whole p') h _ _ (seek (regions kd) k) (s.paths k m.key_formed) (s.orders k m.key_formed)
      m.stands.distinct s.stands.distinct (later gave since now) (given_now gave since now k z p m i) link seen going y.pending y.root
      tree.spelled

  pub others_carry : OthersCarry kd
  others_carry held held' gave since now k z y p p' link seen m i tree e h going =
      carried _ _ z.memory y.memory (whole p) (whole p') (tree_stays _ _ z.memory y.memory (whole p) (whole p') e h) _ _ (seek (regions kd) k)
      (path_same (whole p) (whole p') e (seek (regions kd) k)) (order_same (whole p) (whole p') e (seek (regions kd) k)) m.stands.distinct
      (subst Distinct (sym e) m.stands.distinct) (later gave since now) (given_now gave since now k z p m i) link seen going y.pending y.root
      tree.spelled

  pub step_carries : StepCarries kd
  step_carries held gave since now k z p link seen n a w m i going s =
      stepped kd _ _ k z.memory (whole p) seen (given_now gave since now k z p m i) link n a w going s

module _ {K F : Type 0} (kd : Kind K F) where
  pub steps_end : StepsEnd kd
  steps_end held gave since now k z p link seen tree some in_pool going = record {
    fewer = few_steps _ _ _ z.memory (whole p) link seen going (λ q s. by_way q s) some;
    stands = by_link link refl;
  }
    where
      by_way : (q : ℕ) → In q (whole p) ⊎ Waits (λ n. T (held n)) (whole p) q → InPool z.memory q
      by_way q (inl i) = spelled_in_pool z.memory z.pending z.root (whole p) q tree.spelled i
      by_way q (inr w) = in_pool q w.held

      by_link : (l : ℕ) → l ≡ link → (link ≡ 0) ⊎ ((x : Region K) × FoundAt (λ n. T (held n)) z.memory (whole p) link x)
      by_link zero e = inl (sym e)
      by_link (suc l) e = inr (stands_at _ _ _ z.memory (whole p) link seen going (omega arith))

  pub edit_keeps_found : EditKeepsFound kd
  edit_keeps_found held held' e z y p p' q x tree s tree' h =
      found_carried _ _ z.memory y.memory (whole p) (whole p') h s.regions z.pending y.pending z.root y.root tree.spelled
      tree'.spelled q x

  pub others_keep_found : OthersKeepFound kd
  others_keep_found held held' z y p p' q x tree tree' e h =
      found_carried _ _ z.memory y.memory (whole p) (whole p') (tree_stays _ _ z.memory y.memory (whole p) (whole p') e h)
      (regions_same (whole p) (whole p') e) z.pending y.pending z.root y.root tree.spelled tree'.spelled q x
