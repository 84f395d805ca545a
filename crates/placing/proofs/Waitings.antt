-- A node that waits after a commit is as it was, but for its mark, its waits and a size that was set.
use Rattle.std.proofs.Common.{◌≡◌, ℕ, ◌≤◌, eqb, ◌⊎◌, List, sym, ap, ◌∙◌, subst, inl, inr, arith}
use Rattle.std.proofs.lemmas.Bool.{cases_eq, ne_eqb}
use Rattle.store.specs.declared.node.Node.{Node}
use Rattle.store.specs.declared.node.Region.{Region}
use Rattle.store.specs.Cells.{readable, cell_at, mark_of}
use Rattle.trees.specs.Trees.{Tree}
use Rattle.trees.specs.Rotations.{Label}
use Rattle.trees.specs.Edits.{Frame, labels, plug}
use Rattle.trees.specs.Paths.{inside}
use Rattle.drafts.specs.declared.link.Numbered.{Numbered}
use Rattle.commits.specs.Commits.{leaving}
use Rattle.runs.specs.States.{Cells, waiting}
use Rattle.runs.specs.Teeth.{Among}
use Rattle.placing.specs.Placings.{CommittedWell, with_size}
use Rattle.placing.proofs.Spellings.{some_or_none, marked_spells}

module _ {K : Type 0} where
  -- a node of mark 2 waits for whatever it waits for
  as_waiting : (v : Node K) → v.mark ≡ 2 → v ≡ waiting v v.size v.waits
  as_waiting v e =
      ap (λ (m : ℕ). record { mark = m; left = v.left; right = v.right; size = v.size; rows = v.rows; waits = v.waits; low = v.low; high = v.high }) e

  left_waiting : (sessions k : ℕ) (v : Node K) → (sessions ≡ 0 → ⊥) → leaving sessions (with_size k v) ≡ waiting v k sessions
  left_waiting sessions k v some = rw (ne_eqb sessions 0 some)

  module _ (cs ds : Cells K) (root sessions : ℕ) (fs : List (Frame ℕ (Region K))) (s : Tree ℕ (Region K)) (t : Tree Label (Region K))
      (gone : List (Numbered K)) (size : ℕ → ℕ → ℕ) (c : CommittedWell cs ds root sessions fs s t gone)
      (as_read : (p : Numbered K) (v : Node K) → Among p gone → cell_at cs p.number ≡ readable v → p.node ≡ with_size (size p.number v.size) v)
      (in_tree : (n k : ℕ) → inside (eqb n) (plug fs s) ≡ 0 → size n k ≡ k) (n : ℕ) (v : Node K) (two : mark_of (cell_at ds n) ≡ 2) (was : cell_at cs n ≡ readable v) where
    abbrev Waits : Type 0
    Waits = (w : ℕ) × (cell_at ds n ≡ readable (waiting v (size n v.size) w))

    gone_waits : (p : Numbered K) → Among p gone → p.number ≡ n → (sessions ≡ 0) ⊎ (sessions ≡ 0 → ⊥) → Waits
    gone_waits p a e (inl none) = absurd (omega (arith, two, subst (λ (i : ℕ). mark_of (cell_at ds i) ≡ 0) e (c.left_free p a none)))
    gone_waits p a e (inr some) = (
      sessions,
      subst (λ (i : ℕ). cell_at ds i ≡ readable (leaving sessions p.node)) e (c.left_waits p a some) ∙ ap readable
          (ap (leaving sessions) (as_read p v a (subst (λ (i : ℕ). cell_at cs i ≡ readable v) (sym e) was) ∙ ap (λ (i : ℕ). with_size (size i v.size) v) e) ∙ left_waiting sessions (size n v.size) v some),
    )

    by_before : inside (eqb n) (plug fs c.tree) ≡ 0 → (inside (eqb n) (plug fs s) ≡ 0) ⊎ (1 ≤ inside (eqb n) (plug fs s)) → Waits
    by_before z (inl y) =
        let same = c.others n y z ∙ was in (
          v.waits,
          same ∙ ap readable (as_waiting v (sym (ap mark_of same) ∙ two) ∙ ap (λ (k : ℕ). waiting v k v.waits) (sym (in_tree n v.size y))),
        )
    by_before z (inr i) = let p = c.who_left n i z in gone_waits p.0 p.1 p.2 (cases_eq sessions 0)

    pub waiting_stays : Waits
    waiting_stays = by_before (marked_spells ds (labels fs) root (plug fs c.tree) c.spelled n (λ e. omega (arith, two))) (some_or_none (inside (eqb n) (plug fs s)))
