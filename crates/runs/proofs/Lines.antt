-- The table tells one refusal; and what line 13 says.
use Rattle.std.proofs.Common.{◌≡◌, ℕ, ◌<◌, ◌≤◌, Bool, true, false, cond, eqb, Some, None, Option, sym, refl, ap, ◌∙◌, arith}
use Rattle.trees.specs.Edits.{Place}
use Rattle.store.specs.declared.node.Region.{Region}
use Rattle.requests.specs.declared.call.Call.{Call}
use Rattle.requests.specs.declared.call.Call.TheVariants.{Put, Drop, Split, Advance, Open, Step, Close, Counts}
use Rattle.runs.specs.declared.call.Argument.{Argument}
use Rattle.runs.specs.declared.call.Refusal.{Refusal}
use Rattle.runs.specs.declared.call.Refusal.TheVariants.{BadSize, NoSession, HasLookup, NoLookup, IllFormed, NotBelow, UnderWay, AtRest, Overlaps, NoRegion, SameAsLow, Full, FewFree}
use Rattle.runs.specs.Calls.{Kind, number_of}
use Rattle.runs.specs.States.{free_nodes}
use Rattle.runs.specs.Table.{Scene, first_ill, keys_of, free_needed, Fits, size, no_session, has_lookup, no_lookup, ill_formed, not_below, under_way, at_rest, overlapping, no_region, same_as_low, full, few_free}
use Rattle.runs.specs.Teeth.{OneRefusal}

abbrev told_ill : {F : Type 0} → Option (Argument × F) → Refusal F
told_ill None = BadSize
told_ill (Some x) = IllFormed x.0 x.1

module _ {K F : Type 0} (kd : Kind K F) where
  -- the refusal that a number stands for
  abbrev numbered : Call K → ℕ → Refusal F
  numbered c n =
      cond (eqb n 2) NoSession (cond (eqb n 3) HasLookup (cond (eqb n 4) NoLookup (cond (eqb n 5) (told_ill (first_ill kd.fault (keys_of c)))
      (cond (eqb n 6) NotBelow (cond (eqb n 7) UnderWay (cond (eqb n 8) AtRest (cond (eqb n 9) Overlaps
      (cond (eqb n 10) NoRegion (cond (eqb n 11) SameAsLow (cond (eqb n 12) Full (cond (eqb n 13) FewFree BadSize)))))))))))

  by_number : (x : Scene K F) (c : Call K) (r : Refusal F) → Fits kd x c r → r ≡ numbered c (number_of r)
  by_number x c r (size _ h) = refl
  by_number x c r (no_session _ s e h) = refl
  by_number x c r (has_lookup s k l h) = refl
  by_number x c r (no_lookup _ s e h) = refl
  by_number x c r (ill_formed _ a f e) = ap told_ill (sym e)
  by_number x c r (not_below low high rows h) = refl
  by_number x c r (under_way _ e h) = refl
  by_number x c r (at_rest h) = refl
  by_number x c r (overlapping low high rows h) = refl
  by_number x c r (no_region _ k e h) = refl
  by_number x c r (same_as_low b m n y g h) = refl
  by_number x c r (full _ e h) = refl
  by_number x c r (few_free _ h) = refl

  pub one_refusal : OneRefusal kd
  one_refusal x c r r' p q =
      let a = p.smallest r' q.fits in
      let b = q.smallest r p.fits in
      let e : number_of r ≡ number_of r' = omega arith in
      by_number x c r p.fits ∙ ap (numbered c) e ∙ sym (by_number x c r' q.fits)

  -- a line with the number 13 is the last
  pub line_13 : (x : Scene K F) (c : Call K) (r : Refusal F) → Fits kd x c r → number_of r ≡ 13 → free_nodes x.state.memory < free_needed kd c x.place
  line_13 x c r (size _ h) e = absurd (let z : ⊥ = omega arith in z)
  line_13 x c r (no_session _ s d h) e = absurd (let z : ⊥ = omega arith in z)
  line_13 x c r (has_lookup s k l h) e = absurd (let z : ⊥ = omega arith in z)
  line_13 x c r (no_lookup _ s d h) e = absurd (let z : ⊥ = omega arith in z)
  line_13 x c r (ill_formed _ a f d) e = absurd (let z : ⊥ = omega arith in z)
  line_13 x c r (not_below low high rows h) e = absurd (let z : ⊥ = omega arith in z)
  line_13 x c r (under_way _ d h) e = absurd (let z : ⊥ = omega arith in z)
  line_13 x c r (at_rest h) e = absurd (let z : ⊥ = omega arith in z)
  line_13 x c r (overlapping low high rows h) e = absurd (let z : ⊥ = omega arith in z)
  line_13 x c r (no_region _ k d h) e = absurd (let z : ⊥ = omega arith in z)
  line_13 x c r (same_as_low b m n y g h) e = absurd (let z : ⊥ = omega arith in z)
  line_13 x c r (full _ d h) e = absurd (let z : ⊥ = omega arith in z)
  line_13 x c r (few_free _ h) e = h

  at_most : (b : Bool) (n : ℕ) → n ≤ 96 → cond b n 0 ≤ 96
  at_most true n h = h
  at_most false n h = omega arith

  -- no call needs more than 96 free nodes
  pub needs_at_most : (c : Call K) (p : Place ℕ (Region K)) → free_needed kd c p ≤ 96
  needs_at_most (Put low high rows) p = omega arith
  needs_at_most (Drop k) p = at_most _ 96 (omega arith)
  needs_at_most (Split b m n) p = omega arith
  needs_at_most Advance p = at_most _ 3 (omega arith)
  needs_at_most (Open s k) p = omega arith
  needs_at_most (Step s) p = omega arith
  needs_at_most (Close s) p = omega arith
  needs_at_most Counts p = omega arith
