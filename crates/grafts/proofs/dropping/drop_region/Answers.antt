use Rattle.std.proofs.Common.{◌≤◌, length, ap, ◌∙◌, arith, rules}
use Rattle.std.proofs.lemmas.Result.{err_from_is_err_and}
use Rattle.drafts.specs.Drafts.{tree_of}
use Rattle.stacks.specs.Held.{held}
use Rattle.search.specs.Frees.{left_of}
use Rattle.commits.specs.Commits.{news}
use Rattle.commits.proofs.Bounds.{chosen_inside}
use Rattle.grafts.specs.Grafts.{free_for}
use Rattle.grafts.proofs.Keeping.{holds_err, holds_ok}
use Rattle.grafts.proofs.Exits.{edits_refused, edits_end, drop_unheld, drop_crowded, drop_stopped, drop_done, held_inside}
use Rattle.grafts.proofs.Replacing.{graft_at, dropped, dropped_stopped, dropped_linkable}
use Rattle.grafts.proofs.dropping.drop_region.Goals as goal

pub returns-in_err-way : goal.returns-in_err-way
returns-in_err-way g c =
    let cs = g.S.Store.cells c.args.store.now in
    let p = err_from_is_err_and c.from_residual.result c.from_residual.ensures.1 in
    record {
      edits = edits_refused cs (held c.args.tree.now.path) c.args.tree.now.root _ _ _ _ (drop_unheld cs (held c.args.tree.now.path) c.args.tree.now.root _ c.args.sessions c.args.key _ (holds_err _ _ c.in_err-way.ensures)) p.1 p.2;
      keeps = λ h. h;
    }

pub returns-in_err-found : goal.returns-in_err-found
returns-in_err-found g c =
    let cs = g.S.Store.cells c.args.store.now in
    let p = err_from_is_err_and c.from_residual-in_err-found.result c.from_residual-in_err-found.ensures.1 in
    record {
      edits = edits_refused cs (held c.args.tree.now.path) c.args.tree.now.root _ _ _ _
          (drop_crowded cs (held c.args.tree.now.path) c.args.tree.now.root _ c.args.sessions c.args.key _ _ (holds_ok _ _ _ c.in_ok-way.ensures) (c.in_err-found.ensures ∙ ap (free_for cs) c.wanted.ensures.value)) p.1 p.2;
      keeps = λ h. h;
    }

pub returns-in_err-top : goal.returns-in_err-top
returns-in_err-top g c =
    let cs = g.S.Store.cells c.args.store.now in
    let p = err_from_is_err_and c.from_residual-in_err-top.result c.from_residual-in_err-top.ensures.1 in
    let f = c.in_ok-found.ensures in
    record {
      edits = edits_refused cs (held c.args.tree.now.path) c.args.tree.now.root _ _ _ _
          (drop_stopped cs (held c.args.tree.now.path) c.args.tree.now.root _ c.args.sessions c.args.key _ _ (holds_ok _ _ _ c.in_ok-way.ensures) (f.asked ∙ ap (free_for cs) c.wanted.ensures.value)
          (dropped_stopped cs c.in_ok-way.p c.replace.new.draft c.replace.result _ c.replace.ensures.value c.in_err-top.ensures)) p.1 p.2;
      keeps = λ h. h;
    }

pub finish-requires : goal.finish-requires
finish-requires g c =
    let cs = g.S.Store.cells c.args.store.now in
    let f = c.in_ok-found.ensures in
    let i = held_inside cs (held c.args.tree.now.path) c.args.tree.now.root _ c.args.key _ (holds_ok _ _ _ c.in_ok-way.ensures) in
    let s = dropped_linkable cs c.in_ok-way.p c.replace.new.draft c.replace.result c.in_ok-top.top c.replace.ensures.value c.in_ok-top.ensures c.replace.ensures.fine i in
    let link = s.link in
    let many : news (tree_of c.replace.new.draft c.in_ok-top.top) ≤ length (left_of c.in_ok-found.found) = omega (arith, s.few, f.many, c.wanted.ensures.value) in
    let inside = chosen_inside cs _ f.chosen in
    let gone = s.gone in
    search rules

pub returns : goal.returns
returns g c =
    let cs = g.S.Store.cells c.args.store.now in
    let f = c.in_ok-found.ensures in
    record {
      edits = edits_end cs (held c.args.tree.now.path) c.args.tree.now.root _ _ _ _ _ (left_of c.in_ok-found.found) _ f.chosen c.finish.ensures.inside
          (drop_done cs (held c.args.tree.now.path) c.args.tree.now.root _ c.args.sessions c.args.key _ _ (graft_at c.replace.new.draft c.in_ok-top.top) (holds_ok _ _ _ c.in_ok-way.ensures) (f.asked ∙ ap (free_for cs) c.wanted.ensures.value)
          (dropped cs c.in_ok-way.p c.replace.new.draft c.replace.result c.in_ok-top.top c.replace.ensures.value c.in_ok-top.ensures)) c.finish.ensures.ends;
      keeps = c.finish.ensures.keeps;
    }
