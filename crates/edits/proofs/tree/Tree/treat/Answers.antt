use Rattle.std.proofs.Common.{sym, ◌∙◌}
use Rattle.drafts.proofs.Seeing.{weight_seen}
use Rattle.stacks.specs.Held.{held}
use Rattle.search.specs.Paths.{above}
use Rattle.commits.proofs.Committing.{writes_one, no_refusal}
use Rattle.edits.specs.declared.fault.Doing.TheVariants.{Rotation}
use Rattle.edits.proofs.Weighing.{sized_bound}
use Rattle.edits.proofs.Rotating.{during_err, treat_turned, treat_written}
use Rattle.edits.proofs.tree.Tree.treat.Goals as goal

pub returns-in_err-during-in-None-clause-turns : goal.returns-in_err-during-in-None-clause-turns
returns-in_err-during-in-None-clause-turns g c =
    let p = during_err Rotation c.write.result _ c.in_err-during-in-None.ensures in
    let b = sized_bound (g.S.Store.cells c.args.store.now) c.requires.from.0 _ c.requires.from.1 in
    absurd (no_refusal (g.S.Store.cells c.args.store.now) c.args.w.now.node.number p.0 b.node (sym p.1 ∙ c.write.ensures.value))

pub returns-in-Some-clause-turns : goal.returns-in-Some-clause-turns
returns-in-Some-clause-turns g c =
    treat_turned (g.S.Store.cells c.args.store.now) (above (held c.args.self.now.path)) c.args.self.now.root c.args.sessions _ (g.S.Store.cells c.turn.new.store) _ _ c.weight.result c.weight-2.result c.in-Some.lean
    c.in-Some.ensures (c.weight.ensures.value ∙ sym (weight_seen c.args.draft.now c.args.w.now.left)) (c.weight-2.ensures.value ∙ sym (weight_seen c.args.draft.now c.args.w.now.right)) c.turn.ensures.turns

pub returns-in_ok-during-in-None-clause-turns : goal.returns-in_ok-during-in-None-clause-turns
returns-in_ok-during-in-None-clause-turns g c =
    let cs = g.S.Store.cells c.args.store.now in
    treat_written cs (above (held c.args.self.now.path)) c.args.self.now.root c.args.sessions _ (g.S.Store.cells c.write.new.self) c.weight.result c.weight-2.result
    c.in-None.ensures (c.weight.ensures.value ∙ sym (weight_seen c.args.draft.now c.args.w.now.left)) (c.weight-2.ensures.value ∙ sym (weight_seen c.args.draft.now c.args.w.now.right))
    (sized_bound cs c.requires.from.0 _ c.requires.from.1).node (writes_one cs (g.S.Store.cells c.write.new.self) c.args.w.now.node.number c.args.w.now.node.node c.write.ensures.after)
