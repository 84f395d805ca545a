use Rattle.std.proofs.Common.{◌<◌, ◌≤◌, length, ap, arith, rules}
use Rattle.std.proofs.lemmas.Result.{err_from_is_err_and}
use Rattle.drafts.specs.Drafts.{tree_of, gone_of}
use Rattle.drafts.proofs.Seeing.{good_none}
use Rattle.stacks.specs.Held.{held}
use Rattle.search.specs.Frees.{left_of}
use Rattle.commits.specs.Commits.{news}
use Rattle.commits.proofs.Bounds.{chosen_inside}
use Rattle.grafts.proofs.Exits.{begins_err, begins_ok, edits_refused, edits_end, put_begun, put_met, put_full, put_crowded, put_done, sprouted}
use Rattle.grafts.proofs.putting.put_region.Goals as goal

pub returns-in_err-way : goal.returns-in_err-way
returns-in_err-way g c =
    let cs = g.S.Store.cells c.args.store.now in
    let p = err_from_is_err_and c.from_residual.result c.from_residual.ensures.1 in
    record {
      edits = edits_refused cs (held c.args.tree.now.path) c.args.tree.now.root _ _ _ _ (put_begun cs (held c.args.tree.now.path) c.args.tree.now.root _ c.args.sessions c.args.region _ (begins_err _ _ c.in_err-way.ensures)) p.1 p.2;
      keeps = λ h. h;
    }

pub returns-in_err-meets_none : goal.returns-in_err-meets_none
returns-in_err-meets_none g c =
    let cs = g.S.Store.cells c.args.store.now in
    let p = err_from_is_err_and c.from_residual-in_err-meets_none.result c.from_residual-in_err-meets_none.ensures.1 in
    record {
      edits = edits_refused cs (held c.args.tree.now.path) c.args.tree.now.root _ _ _ _
          (put_met cs (held c.args.tree.now.path) c.args.tree.now.root _ c.args.sessions c.args.region _ _ (begins_ok _ _ _ c.in_ok-way.ensures) c.in_err-meets_none.ensures) p.1 p.2;
      keeps = λ h. h;
    }

pub returns-in_err-has_room : goal.returns-in_err-has_room
returns-in_err-has_room g c =
    let cs = g.S.Store.cells c.args.store.now in
    let p = err_from_is_err_and c.from_residual-in_err-has_room.result c.from_residual-in_err-has_room.ensures.1 in
    record {
      edits = edits_refused cs (held c.args.tree.now.path) c.args.tree.now.root _ _ _ _
          (put_full cs (held c.args.tree.now.path) c.args.tree.now.root _ c.args.sessions c.args.region _ _ (begins_ok _ _ _ c.in_ok-way.ensures) c.in_ok-meets_none.ensures c.in_err-has_room.ensures) p.1 p.2;
      keeps = λ h. h;
    }

pub returns-in_err-found : goal.returns-in_err-found
returns-in_err-found g c =
    let cs = g.S.Store.cells c.args.store.now in
    let p = err_from_is_err_and c.from_residual-in_err-found.result c.from_residual-in_err-found.ensures.1 in
    record {
      edits = edits_refused cs (held c.args.tree.now.path) c.args.tree.now.root _ _ _ _
          (put_crowded cs (held c.args.tree.now.path) c.args.tree.now.root _ c.args.sessions c.args.region _ _ (begins_ok _ _ _ c.in_ok-way.ensures) c.in_ok-meets_none.ensures c.in_ok-has_room.ensures
          c.in_err-found.ensures) p.1 p.2;
      keeps = λ h. h;
    }

pub join-requires : goal.join-requires
join-requires g c =
    let made : length c.clear.new.self.made < 96 = omega (arith, ap length c.clear.ensures.made) in
    let left = good_none c.clear.new.self in
    search rules

pub finish-requires : goal.finish-requires
finish-requires g c =
    let f = c.in_ok-found.ensures in
    let w = c.clear.ensures in
    let s = sprouted (length (g.S.Store.cells c.args.store.now)) c.clear.new.self c.join.new.self c.args.region c.join.result c.link-top.result w.gone c.join.ensures c.link-top.ensures in
    let link = s.link in
    let many : news (tree_of c.join.new.self c.link-top.result) ≤ length (left_of c.in_ok-found.found) = omega (arith, s.news_one, f.many) in
    let inside = chosen_inside (g.S.Store.cells c.args.store.now) _ f.chosen in
    let gone = s.gone in
    search rules

pub returns : goal.returns
returns g c =
    let cs = g.S.Store.cells c.args.store.now in
    let f = c.in_ok-found.ensures in
    let w = c.clear.ensures in
    let s = sprouted (length cs) c.clear.new.self c.join.new.self c.args.region c.join.result c.link-top.result w.gone c.join.ensures c.link-top.ensures in
    record {
      edits = edits_end cs (held c.args.tree.now.path) c.args.tree.now.root _ _ _ _ _ (left_of c.in_ok-found.found) _ f.chosen c.finish.ensures.inside
          (put_done cs (held c.args.tree.now.path) c.args.tree.now.root _ c.args.sessions c.args.region _ _ (record { side = tree_of c.join.new.self c.link-top.result; gone = gone_of c.join.new.self }) (begins_ok _ _ _ c.in_ok-way.ensures) c.in_ok-meets_none.ensures c.in_ok-has_room.ensures
          f.asked s.side s.none) c.finish.ensures.ends;
      keeps = c.finish.ensures.keeps;
    }
