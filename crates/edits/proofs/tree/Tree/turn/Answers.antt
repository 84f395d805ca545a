use Rattle.std.proofs.Common.{length, sym, ap, ◌∙◌, subst, arith, rules}
use Rattle.std.proofs.lemmas.Result.{err_from_is_err_and, MatchResult-at_ok, MatchResult-at_err}
use Rattle.edits.specs.declared.fault.Doing.TheVariants.{Rotation}
use Rattle.drafts.specs.Drafts.{tree_of, gone_of}
use Rattle.stacks.specs.Held.{held}
use Rattle.search.specs.Paths.{above}
use Rattle.search.specs.Frees.{found_of, left_of, Chosen}
use Rattle.commits.proofs.Fallings.{committed_inside}
use Rattle.edits.specs.Calls.{turned_in, plan_good}
use Rattle.edits.proofs.Rotating.{during_ok, during_err, unused, enough, turn_crowded, turn_refused, turn_done, ready}
use Rattle.edits.proofs.tree.Tree.turn.Goals as goal

pub returns-in_err-found-clause-turns : goal.returns-in_err-found-clause-turns
returns-in_err-found-clause-turns g c =
    let p = during_err Rotation c.find_free.result _ c.in_err-found.ensures in
    absurd (MatchResult-at_err _ _ p.0 p.1 c.find_free.ensures)

pub returns-then-len-lt3-clause-turns : goal.returns-then-len-lt3-clause-turns
returns-then-len-lt3-clause-turns g c =
    let f = MatchResult-at_ok _ _ c.in_ok-found.found (during_ok Rotation c.find_free.result _ c.in_ok-found.ensures) c.find_free.ensures in
    turn_crowded (g.S.Store.cells c.args.store.now) (above (held c.args.self.now.path)) c.args.self.now.root c.args.sessions _ c.args.lean (found_of c.in_ok-found.found) f.0 (omega (arith, c.len.ensures.value))

pub returns-in_err-plan-clause-turns : goal.returns-in_err-plan-clause-turns
returns-in_err-plan-clause-turns g c =
    let cs = g.S.Store.cells c.args.store.now in
    let f = MatchResult-at_ok _ _ c.in_ok-found.found (during_ok Rotation c.find_free.result _ c.in_ok-found.ensures) c.find_free.ensures in
    let p = err_from_is_err_and c.from_residual-in_err-plan.result c.from_residual-in_err-plan.ensures.1 in
    let e = during_err Rotation c.plan_turn.result _ c.in_err-plan.ensures in
    let v = rw c.above.ensures at c.plan_turn.ensures.value in
    turn_refused cs (above (held c.args.self.now.path)) c.args.self.now.root c.args.sessions _ c.args.lean e.0 _ _ _
    (enough cs (found_of c.in_ok-found.found) f.0 (omega (arith, c.len.ensures.value))) (sym (ap (turned_in c.plan_turn.new.draft) e.1) ∙ v) p.1 p.2 e.2

pub commit-requires : goal.commit-requires
commit-requires g c =
    let cs = g.S.Store.cells c.args.store.now in
    let f = MatchResult-at_ok _ _ c.in_ok-found.found (during_ok Rotation c.find_free.result _ c.in_ok-found.ensures) c.find_free.ensures in
    let e = during_ok Rotation c.plan_turn.result c.in_ok-plan.plan c.in_ok-plan.ensures in
    let v = rw c.above.ensures at c.plan_turn.ensures.value in
    let good = subst (plan_good c.plan_turn.new.draft) e c.plan_turn.ensures.good in
    let r = ready cs (above (held c.args.self.now.path)) c.requires.from.0 _ c.args.lean c.plan_turn.new.draft c.link-top.result c.in_ok-plan.plan.top c.in_ok-plan.plan.joint c.in_ok-found.found
    c.requires.from.1 (sym (ap (turned_in c.plan_turn.new.draft) e) ∙ v) c.link-top.ensures good f.0 f.1 (omega (arith, c.len.ensures.value)) in
    (search rules, (r.link, (r.many, (r.inside, (r.joint, r.gone)))))

pub returns-in_err-during-clause-turns : goal.returns-in_err-during-clause-turns
returns-in_err-during-clause-turns g c =
    let p = during_err Rotation c.commit.result _ c.in_err-during.ensures in
    absurd (MatchResult-at_err _ _ p.0 p.1 c.commit.ensures.value)

pub returns-clause-turns : goal.returns-clause-turns
returns-clause-turns g c =
    let cs = g.S.Store.cells c.args.store.now in
    let f = MatchResult-at_ok _ _ c.in_ok-found.found (during_ok Rotation c.find_free.result _ c.in_ok-found.ensures) c.find_free.ensures in
    let e = during_ok Rotation c.plan_turn.result c.in_ok-plan.plan c.in_ok-plan.ensures in
    let v = rw c.above.ensures at c.plan_turn.ensures.value in
    let good = subst (plan_good c.plan_turn.new.draft) e c.plan_turn.ensures.good in
    let r = ready cs (above (held c.args.self.now.path)) c.requires.from.0 _ c.args.lean c.plan_turn.new.draft c.link-top.result c.in_ok-plan.plan.top c.in_ok-plan.plan.joint c.in_ok-found.found
    c.requires.from.1 (sym (ap (turned_in c.plan_turn.new.draft) e) ∙ v) c.link-top.ensures good f.0 f.1 (omega (arith, c.len.ensures.value)) in
    turn_done cs (above (held c.args.self.now.path)) c.args.self.now.root c.args.sessions _ c.args.lean (g.S.Store.cells c.commit.new.store) c.plan_turn.new.draft c.link-top.result
    c.in_ok-plan.plan.top c.in_ok-plan.plan.joint _ (left_of c.in_ok-found.found)
    (enough cs (found_of c.in_ok-found.found) f.0 (omega (arith, c.len.ensures.value)))
    (subst (Chosen cs) (sym (unused c.in_ok-found.found f.1)) f.0.chosen)
    (sym (ap (turned_in c.plan_turn.new.draft) e) ∙ v) c.link-top.ensures good
    (committed_inside (length cs) c.in_ok-plan.plan.joint (tree_of c.plan_turn.new.draft c.link-top.result) (left_of c.in_ok-found.found) c.args.sessions (gone_of c.plan_turn.new.draft) r.many r.inside r.joint r.gone)
    c.commit.ensures.root c.commit.ensures.writes
