use Rattle.std.proofs.Common.{◌≡◌, subst, arith, rules}
use Rattle.std.proofs.lemmas.Result.{err_from_is_err_and}
use Rattle.drafts.specs.Drafts.{built_told}
use Rattle.stacks.specs.Held.{held}
use Rattle.search.specs.Frees.{left_of}
use Rattle.commits.proofs.Bounds.{chosen_inside}
use Rattle.walks.specs.Walks.{parted}
use Rattle.grafts.proofs.Keeping.{holds_err, holds_ok}
use Rattle.grafts.proofs.Exits.{edits_refused, edits_end, split_unheld, split_low, split_full, split_crowded, split_stopped, split_done, held_inside}
use Rattle.grafts.proofs.Replacing.{graft_at, divided, divided_at, parted_stopped, divided_linkable}
use Rattle.grafts.proofs.splitting.split_region.Goals as goal

pub returns-in_err-way : goal.returns-in_err-way
returns-in_err-way g c =
    let cs = g.S.Store.cells c.args.store.now in
    let p = err_from_is_err_and c.from_residual.result c.from_residual.ensures.1 in
    record {
      edits = edits_refused cs (held c.args.tree.now.path) c.args.tree.now.root _ _ _ _ (split_unheld cs (held c.args.tree.now.path) c.args.tree.now.root _ _ c.args.sessions c.args.key c.args.lower c.args.upper _ (holds_err _ _ c.in_err-way.ensures)) p.1 p.2;
      keeps = λ h. h;
    }

pub returns-in_err-past_low : goal.returns-in_err-past_low
returns-in_err-past_low g c =
    let cs = g.S.Store.cells c.args.store.now in
    let p = err_from_is_err_and c.from_residual-in_err-past_low.result c.from_residual-in_err-past_low.ensures.1 in
    record {
      edits = edits_refused cs (held c.args.tree.now.path) c.args.tree.now.root _ _ _ _
          (split_low cs (held c.args.tree.now.path) c.args.tree.now.root _ _ c.args.sessions c.args.key c.args.lower c.args.upper _ (holds_ok _ _ _ c.in_ok-way.ensures) _ c.in_err-past_low.ensures) p.1 p.2;
      keeps = λ h. h;
    }

pub returns-in_err-has_room : goal.returns-in_err-has_room
returns-in_err-has_room g c =
    let cs = g.S.Store.cells c.args.store.now in
    let p = err_from_is_err_and c.from_residual-in_err-has_room.result c.from_residual-in_err-has_room.ensures.1 in
    record {
      edits = edits_refused cs (held c.args.tree.now.path) c.args.tree.now.root _ _ _ _
          (split_full cs (held c.args.tree.now.path) c.args.tree.now.root _ _ c.args.sessions c.args.key c.args.lower c.args.upper _ (holds_ok _ _ _ c.in_ok-way.ensures) _ c.in_ok-past_low.ensures
          c.in_err-has_room.ensures) p.1 p.2;
      keeps = λ h. h;
    }

pub returns-in_err-found : goal.returns-in_err-found
returns-in_err-found g c =
    let cs = g.S.Store.cells c.args.store.now in
    let p = err_from_is_err_and c.from_residual-in_err-found.result c.from_residual-in_err-found.ensures.1 in
    record {
      edits = edits_refused cs (held c.args.tree.now.path) c.args.tree.now.root _ _ _ _
          (split_crowded cs (held c.args.tree.now.path) c.args.tree.now.root _ _ c.args.sessions c.args.key c.args.lower c.args.upper _ (holds_ok _ _ _ c.in_ok-way.ensures) _ c.in_ok-past_low.ensures
          c.in_ok-has_room.ensures c.in_err-found.ensures) p.1 p.2;
      keeps = λ h. h;
    }

pub returns-in_err-side : goal.returns-in_err-side
returns-in_err-side g c =
    let cs = g.S.Store.cells c.args.store.now in
    let told = subst (λ z. built_told c.part.new.draft c.part.result ≡ parted cs c.in_ok-way.p z.0 z.1) c.cut-below.ensures c.part.ensures.value in
    let p = err_from_is_err_and c.from_residual-in_err-side.result c.from_residual-in_err-side.ensures.1 in
    let f = c.in_ok-found.ensures in
    record {
      edits = edits_refused cs (held c.args.tree.now.path) c.args.tree.now.root _ _ _ _
          (split_stopped cs (held c.args.tree.now.path) c.args.tree.now.root _ _ c.args.sessions c.args.key c.args.lower c.args.upper _ (holds_ok _ _ _ c.in_ok-way.ensures) _ c.in_ok-past_low.ensures
          c.in_ok-has_room.ensures f.asked (parted_stopped cs c.in_ok-way.p _ _ c.part.new.draft c.part.result _ told c.in_err-side.ensures)) p.1 p.2;
      keeps = λ h. h;
    }

-- the search stands before the facts: beside them it meets more records than it enters
pub finish-requires : goal.finish-requires
finish-requires g c = (
  search rules,
  let cs = g.S.Store.cells c.args.store.now in
      let told = subst (λ z. built_told c.part.new.draft c.part.result ≡ parted cs c.in_ok-way.p z.0 z.1) c.cut-below.ensures c.part.ensures.value in
      let f = c.in_ok-found.ensures in
      let i = held_inside cs (held c.args.tree.now.path) c.args.tree.now.root _ c.args.key _ (holds_ok _ _ _ c.in_ok-way.ensures) in
      let s = divided_linkable cs c.in_ok-way.p _ _ c.part.new.draft c.part.result c.in_ok-side.side told c.in_ok-side.ensures c.link.result c.link.ensures c.part.ensures.good i in
      (s.link, (omega (arith, s.few, f.many), (chosen_inside cs _ f.chosen, s.gone))),
)

pub returns : goal.returns
returns g c =
    let cs = g.S.Store.cells c.args.store.now in
    let told = subst (λ z. built_told c.part.new.draft c.part.result ≡ parted cs c.in_ok-way.p z.0 z.1) c.cut-below.ensures c.part.ensures.value in
    let f = c.in_ok-found.ensures in
    record {
      edits = edits_end cs (held c.args.tree.now.path) c.args.tree.now.root _ _ _ _ _ (left_of c.in_ok-found.found) _ f.chosen c.finish.ensures.inside
          (split_done cs (held c.args.tree.now.path) c.args.tree.now.root _ _ c.args.sessions c.args.key c.args.lower c.args.upper _ (holds_ok _ _ _ c.in_ok-way.ensures) _ _ (graft_at c.part.new.draft c.link.result)
          (divided_at cs c.in_ok-way.p _ _ c.part.new.draft c.part.result c.in_ok-side.side told c.in_ok-side.ensures c.link.result c.link.ensures c.part.ensures.good)
          c.in_ok-past_low.ensures c.in_ok-has_room.ensures f.asked
          (divided cs c.in_ok-way.p _ _ c.part.new.draft c.part.result c.in_ok-side.side told c.in_ok-side.ensures)) c.finish.ensures.ends;
      keeps = c.finish.ensures.keeps;
    }
