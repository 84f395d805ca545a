use Rattle.std.proofs.Common.{ap, ◌∙◌, rules}
use Rattle.drafts.specs.Drafts.{gone_of, tree_of}
use Rattle.search.specs.Frees.{left_of}
use Rattle.commits.specs.Commits.{placed, root_after}
use Rattle.commits.proofs.Committing.{all_written, joint_after, gone_after}
use Rattle.commits.proofs.writes.commit.Goals as goal

pub hang-requires : goal.hang-requires
hang-requires g c = joint_after (g.S.Store.cells c.args.store.now) _ _ c.args.joint c.in_ok-n.ensures.writes c.requires.joint

pub let_go-requires : goal.let_go-requires
let_go-requires g c =
    let inside = gone_after (g.S.Store.cells c.place.new.store) (g.S.Store.cells c.hang.new.store) _ (gone_of c.args.draft.now) c.in_ok-hang.ensures.writes
    (gone_after (g.S.Store.cells c.args.store.now) (g.S.Store.cells c.place.new.store) _ (gone_of c.args.draft.now) c.in_ok-n.ensures.writes c.requires.gone) in
    search rules

pub returns : goal.returns
returns g c =
    let p = c.in_ok-n.ensures in
    let h = c.in_ok-hang.ensures in
    let l = c.let_go.ensures in
    record {
      value = l.value;
      writes = all_written (g.S.Store.cells c.args.store.now) (g.S.Store.cells c.place.new.store) (g.S.Store.cells c.hang.new.store) (g.S.Store.cells c.let_go.new.store)
          c.args.joint (placed (tree_of c.args.draft.now c.args.top) (left_of c.args.found.now)) c.in_ok-n.n c.args.sessions (gone_of c.args.draft.now) p.value p.writes h.writes l.writes;
      root = h.root ∙ ap (λ n. root_after c.args.joint n c.args.root.now) p.value;
      keeps = λ f. l.keeps (h.keeps (p.keeps f));
    }
