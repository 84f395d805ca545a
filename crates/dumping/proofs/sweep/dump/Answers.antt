use Rattle.std.proofs.Common.{◌≡◌, rules, ◌+◌, ◌<◌, ◌≤◌, ◌++◌, length, string_bytes, ap, ◌∙◌, arith}
use Rattle.store.specs.Cells.{count_answer, mark_of, cell_at}
use Rattle.dumping.specs.Marks.{none_marked, all_marked}
use Rattle.dumping.specs.Dumps.{cell_lines, counted, totals_line}
use Rattle.dumping.proofs.Cells.{lines_more, counted_more, all_more, at_end}
use Rattle.dumping.proofs.sweep.dump.Goals as goal
use Rattle.dumping.proofs.sweep.dump.Goals.{else-loop-n-test, then-loop-n-test+in_ok-dump_cell+else-n-n-end}

pub loop-n-init : goal.loop-n-init
unfolding count_answer
loop-n-init g c =
    let cs = g.S.Store.cells c.args.store.now in
    let none : c.default-totals.result ≡ none_marked = search rules in (
      ap (λ l. l ++ cell_lines g.K.Printable.held 1 cs) c.new-out.ensures.bytes,
      ap (λ t. counted t cs) none,
      ap (λ t. all_marked t + 1) none,
      c.count-count.ensures,
    )

pub loop-n-preserved : goal.loop-n-preserved
loop-n-preserved g c =
    let cs = g.S.Store.cells c.args.store.now in
    let (lines, marks, seen, count) = c.loop-n.invariant in
    let n = c.loop-n.n in
    let from : 0 < c.loop-n.n = omega (arith, seen) in
    let to : c.loop-n.n ≤ length (g.S.Store.cells c.args.store.now) = omega (arith, count) in
    let told = c.dump_cell.ensures in (
      lines_more g.K.Printable.held cs n _ _ from to c.in_ok-dump_cell.ensures.text ∙ lines,
      counted_more cs n _ _ from to told.marks ∙ marks,
      ap (λ t. all_marked t + 1) told.marks ∙ ap (λ k. k + 1) (all_more (mark_of (cell_at cs n)) c.loop-n.totals) ∙ omega (arith, seen),
      count,
    )

pub returns : goal.returns
returns g c =
    let cs = g.S.Store.cells c.args.store.now in
    let (lines, marks, seen, count) = c.loop-n.invariant in
    let n = c.loop-n.n in
    let written : string_bytes c.writeln.new.self ≡ string_bytes c.loop-n-test.out ++ totals_line (length cs) c.loop-n-test.totals =
    c.in_ok-writeln.ensures.bytes ∙ ap (λ k. string_bytes c.loop-n-test.out ++ totals_line k c.loop-n-test.totals) count in
    elim c.loop-n-test.branch [
      | else-loop-n-test w ↦
          let past : length (g.S.Store.cells c.args.store.now) < c.loop-n.n = omega (arith, count) in
          at_end g.K.Printable.held cs n (string_bytes c.loop-n.out) _ c.loop-n.totals past lines marks
          (written ∙ ap (λ o. string_bytes o ++ totals_line (length cs) c.loop-n-test.totals) w.out-is ∙ ap (λ t. string_bytes c.loop-n.out ++ totals_line (length cs) t) w.totals-is)
      | then-loop-n-test+in_ok-dump_cell+else-n-n-end w ↦
          let from : 0 < c.loop-n.n = omega (arith, seen) in
          let to : c.loop-n.n ≤ length (g.S.Store.cells c.args.store.now) = omega (arith, count) in
          let past : length (g.S.Store.cells c.args.store.now) < c.loop-n.n + 1 = omega (arith, count) in
          at_end g.K.Printable.held cs (n + 1) (string_bytes w.dump_cell.new.out) _ w.dump_cell.new.totals past
          (lines_more g.K.Printable.held cs n _ _ from to w.in_ok-dump_cell.ensures.text ∙ lines)
          (counted_more cs n _ _ from to w.dump_cell.ensures.marks ∙ marks)
          (written ∙ ap (λ o. string_bytes o ++ totals_line (length cs) c.loop-n-test.totals) w.out-is ∙ ap (λ t. string_bytes w.dump_cell.new.out ++ totals_line (length cs) t) w.totals-is)
    ]
