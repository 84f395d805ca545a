-- Every call is exact, if what is asked first, the calls of sessions and the edits are.
use Rattle.std.proofs.Common.{◌≡◌, ℕ, List, reverse, length, Some, None, Ok, Err, Option, Result, sym, refl, ap, ◌∙◌, subst, inl, arith}
use mathlib.Core.List.{reverse-reverse}
use Rattle.store.specs.Fits.{FitCells}
use Rattle.store.specs.Cells.{cell_at}
use Rattle.store.specs.Nodes.{region}
use Rattle.store.specs.declared.node.Region.{Region}
use Rattle.trees.specs.Edits.{Place}
use Rattle.search.specs.Frees.{Chosen}
use Rattle.commits.specs.Commits.{Writes, GoneInside}
use Rattle.edits.specs.declared.fault.Refusal.{Refusal as EditRefusal}
use Rattle.edits.specs.Calls.{Within, Change, Ends}
use Rattle.requests.specs.declared.call.Call.{Call}
use Rattle.requests.specs.declared.call.Call.TheVariants.{Put, Drop, Split, Advance, Open, Step, Close, Counts}
use Rattle.runs.specs.declared.call.Refusal.{Refusal}
use Rattle.runs.specs.declared.call.Answer.TheVariants.{Pending}
use Rattle.runs.specs.Calls.{Kind, Outcome}
use Rattle.runs.specs.States.{State, Cells}
use Rattle.runs.specs.Table.{FirstLine}
use Rattle.runs.specs.Runs.{Turn, state}
use Rattle.lookups.specs.Throughout.{LookupsKept}
use Rattle.moments.specs.Invariant.{scene_at, Inv}
use Rattle.calls.specs.Does.{edit_refusal, edit_answer, asked, EditDoes, Acts, DoesBy, DoesCells, put_of, drop_of, split_of, advance_of}
use Rattle.calls.specs.Exacts.{CallExact, ByTable, edit_told}
use Rattle.promise.specs.Theorems.{Parts, CallsExact}

-- a list is told by its reverse
same_reversed : {A : Type 0} (xs ys : List A) → reverse xs ≡ reverse ys → xs ≡ ys
same_reversed xs ys e = sym (reverse-reverse xs) ∙ ap reverse e ∙ reverse-reverse ys

module _ {K F : Type 0} (kd : Kind K F) (parts : Parts kd) (z : State (Cells K)) (ts : List (Turn (Cells K) K F)) (p : Place ℕ (Region K)) (inv : Inv kd z ts p) where
  module _ (c : Call K) (y : State (Cells K)) (told : List ℕ → Result (Change K) EditRefusal) (is : edit_told kd (state z ts) c ≡ Some told)
      (none : asked kd (state z ts) c ≡ None) where
    by_table : ByTable kd (scene_at kd z ts p) c told
    by_table = parts.by_table z ts p c told inv is none

    -- refused by the table, with nothing changed
    edit_refused :
        (ns : List ℕ) (e : EditRefusal) → told ns ≡ Err e → y.memory ≡ (state z ts).memory → y.root ≡ (state z ts).root →
        y.pending ≡ (state z ts).pending → y.rows ≡ (state z ts).rows → CallExact kd z ts p c (Err (edit_refusal e)) y
    edit_refused ns e t m o l w = record {
      after = p;
      exact = record {
        refused_by = λ r d. let f : edit_refusal e ≡ r = cc in subst (FirstLine kd (scene_at kd z ts p) c) f (by_table.refused ns e t);
        refused_if = λ r f. refl;
        refused_alters = λ d. record { same_root = o; same_pending = l; same_rows = w; same_tree = refl; same_cells = λ q. inl (ap (λ cs. cell_at cs q) m) };
        accepted_does = λ d. absurd (let q : ◌≡◌ {A = ℕ} 0 1 = cc in let f : ⊥ = omega arith in f);
      };
      framed = (refl, ap length m);
    }

    -- no line of the table fits, and it is done
    edit_done :
        (ns : List ℕ) (ch : Change K) → told ns ≡ Ok ch → Chosen (state z ts).memory ns → GoneInside (length (state z ts).memory) ch.writes → Writes (state z ts).memory ch.writes y.memory →
        y.root ≡ ch.root → y.pending ≡ reverse ch.path → y.rows ≡ (state z ts).rows → FitCells y.memory →
        CallExact kd z ts p c (Ok (Pending (length ch.path))) y
    edit_done ns ch t n k m o l w f =
        let d = parts.as_made z ts p c told ns ch y inv is none n t k m o l w f in
        record {
          after = d.after;
          exact = record {
            refused_by = λ r e. absurd (let q : ◌≡◌ {A = ℕ} 0 1 = cc in let g : ⊥ = omega arith in g);
            refused_if = λ r e. absurd (by_table.no_line ns ch t r e);
            refused_alters = λ e. absurd (let q : ◌≡◌ {A = ℕ} 0 1 = cc in let g : ⊥ = omega arith in g);
            accepted_does = λ e. d.done;
          };
          framed = d.framed;
        }

    edit_exact : (a : Outcome K F) → EditDoes kd told (state z ts) a y → FitCells y.memory → CallExact kd z ts p c a y
    edit_exact a d f = by_told (told d.edits.edits.numbers) refl d.edits.edits.ends
      where
        by_told :
            (r : Result (Change K) EditRefusal) → told d.edits.edits.numbers ≡ r →
            Ends (state z ts).memory y.memory (reverse (state z ts).pending) (reverse y.pending) (state z ts).root y.root d.result r →
            CallExact kd z ts p c a y
        by_told (Err e) t h =
            subst (λ (b : Outcome K F). CallExact kd z ts p c b y) (sym (d.answers ∙ ap edit_answer h.0))
            (edit_refused d.edits.edits.numbers e t h.3 h.2 (same_reversed y.pending (state z ts).pending h.1) d.rows)
        by_told (Ok ch) t h =
            subst (λ (b : Outcome K F). CallExact kd z ts p c b y) (sym (d.answers ∙ ap edit_answer h.0))
            (edit_done d.edits.edits.numbers ch t d.edits.edits.chosen (subst (Within (length (state z ts).memory)) t d.edits.inside) h.3 h.2 (sym (reverse-reverse y.pending) ∙ ap reverse h.1) d.rows f)

  module _ (kept : LookupsKept kd z ts) where
    acts_exact :
        (c : Call K) (a : Outcome K F) (y : State (Cells K)) → asked kd (state z ts) c ≡ None → Acts kd c (state z ts) a y → FitCells y.memory →
        CallExact kd z ts p c a y
    acts_exact (Put low high rows) a y n d f = edit_exact (Put low high rows) y (put_of kd (state z ts) (region low high rows)) refl n a d f
    acts_exact (Drop k) a y n d f = edit_exact (Drop k) y (drop_of kd (state z ts) k) refl n a d f
    acts_exact (Split b i j) a y n d f = edit_exact (Split b i j) y (split_of kd (state z ts) b i j) refl n a d f
    acts_exact Advance a y n d f = edit_exact Advance y (advance_of kd (state z ts)) refl n a d f
    acts_exact (Open s k) a y n d f = parts.acts z ts p (Open s k) a y inv kept refl n d f
    acts_exact (Step s) a y n d f = parts.acts z ts p (Step s) a y inv kept refl n d f
    acts_exact (Close s) a y n d f = parts.acts z ts p (Close s) a y inv kept refl n d f
    acts_exact Counts a y n d f = parts.acts z ts p Counts a y inv kept refl n d f

    call_exact : (c : Call K) (a : Outcome K F) (y : State (Cells K)) → DoesCells kd (state z ts) c a y → FitCells y.memory → CallExact kd z ts p c a y
    call_exact c a y d f = by_asked (asked kd (state z ts) c) refl d
      where
        by_asked : (o : Option (Refusal F)) → asked kd (state z ts) c ≡ o → DoesBy kd o c (state z ts) a y → CallExact kd z ts p c a y
        by_asked None n h = acts_exact c a y n h f
        by_asked (Some r) n h =
            subst (λ (b : Outcome K F). CallExact kd z ts p c b y) (sym h.0)
            (subst (CallExact kd z ts p c (Err r)) (sym h.1) (parts.asked z ts p c r inv n))

pub calls_exact : {K F : Type 0} (kd : Kind K F) → CallsExact kd
calls_exact kd parts z ts p c a y inv kept d f = call_exact kd parts z ts p inv kept c a y d f
