use Rattle.std.proofs.Common.{◌≡◌, ℕ, suc, ◌≤◌, ◌⊎◌, Some, None, Option, sym, refl, subst, inl, inr, arith}
use native.Mathlib.Decide.{dec_le}
use Rattle.std.specs.declared.convert.Infallible.{Infallible}
use Rattle.keys.specs.declared.whole.Whole.{Whole}
use Rattle.store.specs.declared.node.Region.{Region}
use Rattle.runs.specs.Histories.{History}
use Rattle.runs.specs.Examples.{PrintedReads, ReopenedReads, UntrueFail, stale, blind, early, gives_at}

pub printed_reads : PrintedReads
printed_reads = record {
  sets_empty = refl;
  sets_one = refl;
  sets_two = (refl, refl, refl, refl);
  sets_dropped = (refl, refl, refl, refl);
  sets_refused = (refl, refl, refl);
  edits = (refl, refl, refl, refl);
  edits_again = (refl, refl, refl);
  lookups_none = (refl, refl, refl, refl);
  lookups_going = (refl, refl, refl);
  lookups_told = (refl, refl);
  gave = (refl, refl, refl);
  answer_true = record { moment = 5; not_before_opening = omega arith; not_after_answer = omega arith; set_gave = refl };
  waits = (refl, refl);
}

pub reopened_reads : ReopenedReads
reopened_reads = record {
  refused_is_a_moment = refl;
  repeated = refl;
  closed = refl;
  anew = (refl, refl, refl);
  first_lookup = (refl, refl);
  edges = (refl, refl);
  seats = (refl, refl);
}

two : (m n : ℕ) → n ≤ m → m ≤ suc n → (m ≡ n) ⊎ (m ≡ suc n)
two m n h k = by_dec (dec_le m n)
  where
    by_dec : Dec (m ≤ n) → (m ≡ n) ⊎ (m ≡ suc n)
    by_dec (yes l) = inl (omega arith)
    by_dec (no l) = inr (omega arith)

none_some : (x : Region Whole) → ◌≡◌ {A = Option (Region Whole)} None (Some x) → ⊥
none_some x e = let z : ◌≡◌ {A = ℕ} 0 1 = cc in omega arith

-- of two moments neither gives g
neither :
    (h : History Whole Infallible) (m n : ℕ) (g : Option (Region Whole)) → n ≤ m → m ≤ suc n →
    (gives_at n h 35 ≡ g → ⊥) → (gives_at (suc n) h 35 ≡ g → ⊥) → gives_at m h 35 ≡ g → ⊥
neither h m n g a b p q e =
    elim (two m n a b) [
      | inl d ↦ p (subst (λ (j : ℕ). gives_at j h 35 ≡ g) d e)
      | inr d ↦ q (subst (λ (j : ℕ). gives_at j h 35 ≡ g) d e)
    ]

pub untrue_fail : UntrueFail
untrue_fail = record {
  a_stale_answer = record {
    has = refl;
    fails = λ t. neither stale t.moment 3 _ t.not_before_opening t.not_after_answer (none_some _) (none_some _) t.set_gave;
  };
  a_blind_answer = record {
    has = refl;
    fails =
        λ t. neither blind t.moment 2 _ t.not_before_opening t.not_after_answer (λ e. none_some _ (sym e)) (λ e. none_some _ (sym e)) t.set_gave;
  };
  an_early_answer = record {
    has = refl;
    fails = λ t. neither early t.moment 1 _ t.not_before_opening t.not_after_answer (none_some _) (none_some _) t.set_gave;
  };
}
