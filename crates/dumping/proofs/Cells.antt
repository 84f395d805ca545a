-- The lines of cells, one after another.
use Rattle.std.proofs.Common.{◌≡◌, ℕ, ◌+◌, ◌-◌, ◌<◌, ◌≤◌, Bool, true, false, cond, eqb, List, [], ◌∷◌, ◌++◌, length, drop, Ok, Err, codes, decimal, sym, ap, ◌∙◌, append_assoc, append-nil, arith}
use Rattle.std.proofs.lemmas.Bool.{eq-eqb, ne_eqb}
use Rattle.std.proofs.lemmas.Bool.Decides.{nat_tests}
use Rattle.std.proofs.lemmas.List.{drop_more, drop_all}
use Rattle.listing.specs.declared.call.AnyKey.{AnyKey}
use Rattle.listing.specs.Listings.{newline}
use Rattle.store.specs.declared.node.Node.{Node}
use Rattle.store.specs.declared.fault.StoreFault.{StoreFault}
use Rattle.store.specs.Faults.{outside}
use Rattle.store.specs.Cells.{Cell, shut, readable, mark_of, cell_at, shown}
use Rattle.dumping.specs.declared.totals.Totals.{Totals}
use Rattle.dumping.specs.Marks.{mark_shown, none_marked, marked, all_marked}
use Rattle.dumping.specs.Nodes.{line_shown}
use Rattle.dumping.specs.Dumps.{line_of, cell_line, cell_lines, counted, totals_line, dumped}

never : {P : Type 0} → ◌≡◌ {A = ℕ} 0 1 → P
never e = let w : ⊥ = omega arith in elim w [ ]

pub inside : (n N : ℕ) → 0 < n → n ≤ N → outside n N ≡ false
inside n N h k = grind (arith, nat_tests)

module _ {K : Type 0} where
  module _ (held : K → AnyKey) (n : ℕ) where
    abbrev told_closed : ℕ → List ℕ
    told_closed m = decimal n ++ (codes " " ++ (mark_shown m ++ (codes " closed" ++ newline)))

    pub free_line : (c : Cell K) → mark_of c ≡ 0 → cell_line held n c ≡ []
    free_line (shut m) e = ap (λ b. cond b [] (told_closed m)) (eq-eqb m 0 e)
    free_line (readable v) e = ap (λ b. cond b [] (line_shown (line_of held n v) ++ newline)) (eq-eqb v.mark 0 e)

    pub node_line : (c : Cell K) (v : Node K) → Ok v ≡ shown n c → (mark_of c ≡ 0 → ⊥) → cell_line held n c ≡ line_shown (line_of held n v) ++ newline
    node_line (shut m) v e h = never (cc)
    node_line (readable w) v e h =
        let same : v ≡ w = cc in
        ap (λ b. cond b [] (line_shown (line_of held n w) ++ newline)) (ne_eqb w.mark 0 h) ∙ ap (λ u. line_shown (line_of held n u) ++ newline) (sym same)

    pub closed_line : (c : Cell K) (f : StoreFault) → Err f ≡ shown n c → (mark_of c ≡ 0 → ⊥) →
        cell_line held n c ≡ told_closed (mark_of c)
    closed_line (shut m) f e h = ap (λ b. cond b [] (told_closed m)) (ne_eqb m 0 h)
    closed_line (readable w) f e h = never (cc)

total_by : (b0 b1 b2 b3 : Bool) (x0 x1 x2 x3 x4 : Totals) (k : ℕ) → all_marked x0 ≡ k → all_marked x1 ≡ k → all_marked x2 ≡ k → all_marked x3 ≡ k →
    all_marked x4 ≡ k → all_marked (cond b0 x0 (cond b1 x1 (cond b2 x2 (cond b3 x3 x4)))) ≡ k
total_by true b1 b2 b3 x0 x1 x2 x3 x4 k e0 e1 e2 e3 e4 = e0
total_by false true b2 b3 x0 x1 x2 x3 x4 k e0 e1 e2 e3 e4 = e1
total_by false false true b3 x0 x1 x2 x3 x4 k e0 e1 e2 e3 e4 = e2
total_by false false false true x0 x1 x2 x3 x4 k e0 e1 e2 e3 e4 = e3
total_by false false false false x0 x1 x2 x3 x4 k e0 e1 e2 e3 e4 = e4

pub all_more : (m : ℕ) (t : Totals) → all_marked (marked m t) ≡ all_marked t + 1
all_more m t =
    total_by (eqb m 0) (eqb m 1) (eqb m 2) (eqb m 3) _ _ _ _ _ (all_marked t + 1) (omega arith) (omega arith) (omega arith) (omega arith) (omega arith)

-- the cells from node n on
left_cells : {K : Type 0} (cs : List (Cell K)) (n : ℕ) → 0 < n → n ≤ length cs → drop (n - 1) cs ≡ cell_at cs n ∷ drop (n + 1 - 1) cs
left_cells cs n l h = drop_more cs (n - 1) (shut 0) (omega arith) ∙ ap (λ k. cell_at cs n ∷ drop k cs) (omega arith)

pub lines_more : {K : Type 0} (held : K → AnyKey) (cs : List (Cell K)) (n : ℕ) (out more : List ℕ) → 0 < n → n ≤ length cs →
    more ≡ out ++ cell_line held n (cell_at cs n) → more ++ cell_lines held (n + 1) (drop (n + 1 - 1) cs) ≡ out ++ cell_lines held n (drop (n - 1) cs)
lines_more held cs n out more l h e =
    ap (λ x. x ++ cell_lines held (n + 1) (drop (n + 1 - 1) cs)) e
    ∙ append_assoc out (cell_line held n (cell_at cs n)) (cell_lines held (n + 1) (drop (n + 1 - 1) cs))
    ∙ ap (λ x. out ++ cell_lines held n x) (sym (left_cells cs n l h))

pub counted_more : {K : Type 0} (cs : List (Cell K)) (n : ℕ) (t u : Totals) → 0 < n → n ≤ length cs → u ≡ marked (mark_of (cell_at cs n)) t →
    counted u (drop (n + 1 - 1) cs) ≡ counted t (drop (n - 1) cs)
counted_more cs n t u l h e = ap (λ v. counted v (drop (n + 1 - 1) cs)) e ∙ ap (counted t) (sym (left_cells cs n l h))

pub at_end : {K : Type 0} (held : K → AnyKey) (cs : List (Cell K)) (n : ℕ) (out text : List ℕ) (t : Totals) → length cs < n →
    out ++ cell_lines held n (drop (n - 1) cs) ≡ cell_lines held 1 cs → counted t (drop (n - 1) cs) ≡ counted none_marked cs →
    text ≡ out ++ totals_line (length cs) t → text ≡ dumped held cs
at_end held cs n out text t h lines marks e =
    let none = drop_all (n - 1) cs (omega arith) in
    let all : out ≡ cell_lines held 1 cs = sym (append-nil out) ∙ ap (λ l. out ++ cell_lines held n l) (sym none) ∙ lines in
    let sum : t ≡ counted none_marked cs = ap (counted t) (sym none) ∙ marks in
    e ∙ ap (λ l. l ++ totals_line (length cs) t) all ∙ ap (λ u. cell_lines held 1 cs ++ totals_line (length cs) u) sum
