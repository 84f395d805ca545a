use Rattle.std.proofs.Common.{sym, refl, ◌∙◌, rules}
use Rattle.std.proofs.lemmas.Result.{err_from_is_err_and}
use Rattle.stacks.specs.Held.{held}
use Rattle.edits.specs.declared.fault.Doing.TheVariants.{Copy}
use Rattle.edits.proofs.Rotating.{during_ok}
use Rattle.grafts.proofs.Ending.{joint_inside, graft_inside, graft_stopped, graft_done}
use Rattle.grafts.proofs.ends.finish.Goals as goal

pub returns-in_err-joint : goal.returns-in_err-joint
returns-in_err-joint g c =
    let p = err_from_is_err_and c.from_residual.result c.from_residual.ensures.1 in
    record {
      inside = graft_inside _ c.args.sought.now (g.S.Store.cells c.args.store.now) (held c.args.way) c.args.tree.now.root c.args.sessions _ _ c.requires.many c.requires.inside c.requires.gone;
      ends = graft_stopped _ c.args.sought.now (g.S.Store.cells c.args.store.now) (held c.args.way) c.args.tree.now.root c.args.sessions _ _ (held c.args.tree.now.path) c.joint_for.result _ _ _ c.joint_for.ensures c.in_err-joint.ensures p.1 p.2;
      keeps = λ h. h;
    }

pub commit-requires : goal.commit-requires
commit-requires g c =
    let e = during_ok Copy c.joint_for.result c.in_ok-joint.joint c.in_ok-joint.ensures in
    let joint = joint_inside _ c.args.sought.now (g.S.Store.cells c.args.store.now) (held c.args.way) c.in_ok-joint.joint (sym e ∙ c.joint_for.ensures) in
    let link = c.requires.link in
    let many = c.requires.many in
    let inside = c.requires.inside in
    let gone = c.requires.gone in
    search rules

pub returns : goal.returns
returns g c = record {
  inside = graft_inside _ c.args.sought.now (g.S.Store.cells c.args.store.now) (held c.args.way) c.args.tree.now.root c.args.sessions _ _ c.requires.many c.requires.inside c.requires.gone;
  ends = graft_done _ c.args.sought.now (g.S.Store.cells c.args.store.now) (held c.args.way) c.args.tree.now.root c.args.sessions _ _ (held c.args.tree.now.path) _ (g.S.Store.cells c.commit.new.store) _ c.len.result c.joint_for.result c.in_ok-joint.joint
      c.joint_for.ensures c.in_ok-joint.ensures refl c.len.ensures.value c.commit.ensures.root c.commit.ensures.writes;
  keeps = c.commit.ensures.keeps;
}
