use Rattle.std.proofs.Common.{◌≡◌, ◌++◌, length, Ok, refl, string_bytes, codes, decimal, sym, ap, ◌∙◌, append-nil}
use Rattle.listing.specs.Listings.{newline}
use Rattle.listing.proofs.Turns.{made_as}
use Rattle.store.proofs.Insides.{read_inside, mark_inside}
use Rattle.store.proofs.Uses.{mark_is}
use Rattle.store.specs.Cells.{cell_at, mark_of}
use Rattle.dumping.specs.Marks.{marked, mark_shown}
use Rattle.dumping.specs.Nodes.{line_shown}
use Rattle.dumping.proofs.Cells.{inside, free_line, node_line, closed_line}
use Rattle.dumping.proofs.sweep.dump_cell.Goals as goal

pub unwrap-mark-requires : goal.unwrap-mark-requires
unwrap-mark-requires g c =
    let cs = g.S.Store.cells c.args.store.now in
    let e : c.mark.result ≡ Ok (mark_of (cell_at (g.S.Store.cells c.args.store.now) c.args.n)) =
    c.mark.ensures ∙ mark_inside cs c.args.n (inside c.args.n (length cs) c.requires.from c.requires.to) in
    rw e refl

pub returns-then-mark-eq-FREE-clause-text : goal.returns-then-mark-eq-FREE-clause-text
returns-then-mark-eq-FREE-clause-text g c =
    let cs = g.S.Store.cells c.args.store.now in
    let out = string_bytes c.args.out.now in
    let m = mark_is cs c.args.n _ (sym c.unwrap-mark.ensures ∙ c.mark.ensures) in
    sym (ap (λ l. out ++ l) (free_line g.K.Printable.held c.args.n (cell_at cs c.args.n) (sym m ∙ c.if-mark-eq-FREE.true)) ∙ append-nil out)

pub returns-in-Ok-clause-text : goal.returns-in-Ok-clause-text
returns-in-Ok-clause-text g c =
    let cs = g.S.Store.cells c.args.store.now in
    let n = c.args.n in
    let out = string_bytes c.args.out.now in
    let m = mark_is cs n _ (sym c.unwrap-mark.ensures ∙ c.mark.ensures) in
    let line = node_line g.K.Printable.held n (cell_at cs n) c.in-Ok.node (c.in-Ok.ensures ∙ read_inside cs n (inside n (length cs) c.requires.from c.requires.to)) (λ z. c.if-mark-eq-FREE.false (m ∙ z)) in
    made_as c.writeln.result (string_bytes c.writeln.new.self) _ _
    (ap (λ x. out ++ (line_shown x ++ newline)) c.of.ensures ∙ ap (λ l. out ++ l) (sym line)) c.writeln.ensures.bytes

pub returns-in-Err-clause-text : goal.returns-in-Err-clause-text
returns-in-Err-clause-text g c =
    let cs = g.S.Store.cells c.args.store.now in
    let n = c.args.n in
    let out = string_bytes c.args.out.now in
    let m = mark_is cs n _ (sym c.unwrap-mark.ensures ∙ c.mark.ensures) in
    let line = closed_line g.K.Printable.held n (cell_at cs n) c.in-Err.field-0 (c.in-Err.ensures ∙ read_inside cs n (inside n (length cs) c.requires.from c.requires.to)) (λ z. c.if-mark-eq-FREE.false (m ∙ z)) in
    made_as c.writeln-in-Err.result (string_bytes c.writeln-in-Err.new.self) _ _
    (ap (λ k. out ++ (decimal n ++ (codes " " ++ (mark_shown k ++ (codes " closed" ++ newline))))) m ∙ ap (λ l. out ++ l) (sym line)) c.writeln-in-Err.ensures.bytes

pub returns-in-Ok-clause-marks : goal.returns-in-Ok-clause-marks
returns-in-Ok-clause-marks g c =
    let m = mark_is (g.S.Store.cells c.args.store.now) c.args.n _ (sym c.unwrap-mark.ensures ∙ c.mark.ensures) in
    c.add.ensures ∙ ap (λ k. marked k c.args.totals.now) m

pub returns-in-Err-clause-marks : goal.returns-in-Err-clause-marks
returns-in-Err-clause-marks g c =
    let m = mark_is (g.S.Store.cells c.args.store.now) c.args.n _ (sym c.unwrap-mark.ensures ∙ c.mark.ensures) in
    c.add.ensures ∙ ap (λ k. marked k c.args.totals.now) m
