use Rattle.std.proofs.Common.{◌≡◌, ◌+◌, ◌≤◌, ◌++◌, inl, length, string_bytes, codes, decimal, sym, ap, ◌∙◌, arith, rules}
use Rattle.std.specs.Iterator.Adapters.{enumerate_source, enumerate_count}
use Rattle.journal.specs.Readers.{log_of, keys_of, left}
use Rattle.journal.specs.Records.{answers, answers_left}
use Rattle.journal.specs.declared.records.Records.{Records}
use Rattle.listing.specs.Lines.{call_shown}
use Rattle.listing.specs.Tallies.{total, none_counted}
use Rattle.listing.specs.Listings.{newline, record_line, closing_line}
use Rattle.listing.proofs.Turns.{lines_of, lines_told, few_answers, one_more, one_fewer, at_fault, made_as, total_counted}
use Rattle.listing.proofs.lines.list_records.Goals as goal

pub loop-before-init : goal.loop-before-init
loop-before-init c =
    let made = c.into_iter-before-iterator.ensures.into_iter_gives in
    let reader = ap (λ (s : Records). s.reader) (ap enumerate_source made ∙ c.enumerate-before-items.ensures.source) ∙ c.records.ensures in
    let count : enumerate_count c.into_iter-before-iterator.result ≡ 0 = ap enumerate_count made ∙ c.enumerate-before-items.ensures.count in
    let few : length (answers_left (enumerate_source c.into_iter-before-iterator.result)) ≤ length (log_of c.args.reader) + 1 =
    omega (arith, ap (λ r. length (answers (left r))) reader, few_answers (left c.args.reader), c.requires) in
    let tallied : total c.default-tally.result ≡ 0 = search rules in
    let none : c.default-tally.result ≡ none_counted = search rules in (
      (tt, tt, inl (omega (arith, few, count, c.ranges.reader))),
      tt,
      ap log_of reader,
      ap keys_of reader,
      omega (arith, few, count),
      tallied ∙ sym count,
      ap (λ n. string_bytes c.args.out.now ++ lines_of (keys_of c.args.reader) (log_of c.args.reader) n c.default-tally.result (answers_left (enumerate_source c.into_iter-before-iterator.result))) count
          ∙ ap (λ t. string_bytes c.args.out.now ++ lines_of (keys_of c.args.reader) (log_of c.args.reader) 0 t (answers_left (enumerate_source c.into_iter-before-iterator.result))) none
          ∙ ap (λ r. string_bytes c.args.out.now ++ lines_of (keys_of c.args.reader) (log_of c.args.reader) 0 none_counted (answers (left r))) reader
          ∙ ap (λ l. string_bytes c.args.out.now ++ l) (lines_told (keys_of c.args.reader) (log_of c.args.reader) 0 none_counted (left c.args.reader)),
    )

pub loop-before-preserved : goal.loop-before-preserved
loop-before-preserved c =
    let (can, ends, same_log, same_keys, few, tallied, lines) = c.loop-before.invariant in
    let (step, at, next, fits) = c.in-Some.ensures.steps in
    let fewer = one_fewer _ _ _ step.first in
    let n = enumerate_count c.loop-before.before-iterator in
    let keys = keys_of c.args.reader in
    let log = log_of c.args.reader in
    let r = c.in-Ok.record in
    let out = string_bytes c.loop-before.out in
    let written : string_bytes c.writeln.new.self ≡ string_bytes c.loop-before.out ++ record_line keys log (n + 1) r =
    c.in_ok-writeln-in-Ok.ensures.bytes
    ∙ ap (λ k. out ++ (decimal (k + 1) ++ (codes " " ++ (call_shown c.of.result.0 ++ newline)))) at
    ∙ ap (λ call. out ++ (decimal (n + 1) ++ (codes " " ++ (call_shown call ++ newline)))) c.of.ensures in (
      (tt, tt, inl (omega (arith, few, fewer, next, c.ranges.reader))),
      tt,
      step.same_log ∙ same_log,
      step.same_keys ∙ same_keys,
      omega (arith, few, fewer, next),
      ap total c.add.ensures ∙ total_counted r c.loop-before.tally ∙ ap (λ k. k + 1) tallied ∙ sym next,
      one_more keys log n _ _ _ _ _ _ r _ _ step.first c.in-Ok.is next c.add.ensures written ∙ lines,
    )

pub returns-in-Err : goal.returns-in-Err
returns-in-Err c =
    let (can, ends, same_log, same_keys, few, tallied, lines) = c.loop-before.invariant in
    let step = c.in-Some.ensures.steps.0 in
    let last = at_fault (keys_of c.args.reader) (log_of c.args.reader) (enumerate_count c.loop-before.before-iterator) c.loop-before.tally _ _ _ c.in-Err.fault step.first c.in-Err.is in
    made_as c.writeln-in-Err.result (string_bytes c.writeln-in-Err.new.self) _ _ (ap (λ l. string_bytes c.loop-before.out ++ l) (sym last) ∙ lines) c.writeln-in-Err.ensures.bytes

pub returns : goal.returns
returns c =
    let (can, ends, same_log, same_keys, few, tallied, lines) = c.loop-before.invariant in
    let step = c.in-None.ensures.steps.0 in
    let out = string_bytes c.loop-before.out in
    let last = ap (lines_of (keys_of c.args.reader) (log_of c.args.reader) (enumerate_count c.loop-before.before-iterator) c.loop-before.tally) step.first.0 in
    made_as c.writeln-2.result (string_bytes c.writeln-2.new.self) _ _
    (ap (λ k. out ++ closing_line k c.loop-before.tally) (c.total.ensures ∙ tallied) ∙ ap (λ l. out ++ l) (sym last) ∙ lines) c.writeln-2.ensures.bytes
