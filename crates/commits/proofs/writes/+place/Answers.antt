use Rattle.std.proofs.Common.{◌≡◌, suc, ◌≤◌, length, ap, arith, rules}
use Rattle.drafts.specs.Drafts.{tree_of, height}
use Rattle.search.specs.Frees.{left_of}
use Rattle.commits.specs.Commits.{news}
use Rattle.commits.proofs.Committing.{placed_kept, placed_new, news_new, leaves, leaves_right, next_inside, no_refusal}
use Rattle.commits.proofs.writes.+place.Goals as goal

pub returns-in-Old : goal.returns-in-Old
returns-in-Old g t c =
    let p = placed_kept (g.S.Store.cells c.args.store.now) c.args.draft.now c.args.link c.in-Old.n (left_of c.args.found.now) c.in-Old.is in
    record { value = p.top; writes = p.writes; left = p.rest; keeps = λ f. f }

pub place-requires : goal.place-requires
place-requires g t c =
    let e = news_new c.args.draft.now c.args.link c.in-New.i c.entry-b.result c.in-New.is c.entry-b.ensures.stands in
    let many : news (tree_of c.args.draft.now c.entry-b.result.left) ≤ length (left_of c.args.found.now) = omega (arith, e, c.requires.many) in
    let link = c.entry-b.ensures.stands.left in
    let lower = c.entry-b.ensures.lower.0 in
    let up : height c.args.link ≡ suc c.in-New.i = ap height c.in-New.is in
    search rules

pub place-requires-in-New : goal.place-requires-in-New
place-requires-in-New g t c =
    let q = c.in_ok-left-in-New.ensures in
    let s = c.entry-b.ensures.stands in
    let a = leaves_right (g.S.Store.cells c.args.store.now) (g.S.Store.cells c.place.new.store) c.args.draft.now c.args.link c.in-New.i c.entry-b.result
    (left_of c.args.found.now) (left_of c.place.new.found) c.in-New.is s q.writes q.left c.requires.many c.requires.inside in
    let many : news (tree_of c.args.draft.now c.entry-b.result.right) ≤ length (left_of c.place.new.found) = omega (arith, a.many) in
    let inside = a.inside in
    let link = s.right in
    let lower = c.entry-b.ensures.lower.1 in
    let up : height c.args.link ≡ suc c.in-New.i = ap height c.in-New.is in
    search rules

pub next-n-requires : goal.next-n-requires
next-n-requires g t c =
    let q = c.in_ok-left-in-New.ensures in
    let r = c.in_ok-right-in-New.ensures in
    let a = leaves_right (g.S.Store.cells c.args.store.now) (g.S.Store.cells c.place.new.store) c.args.draft.now c.args.link c.in-New.i c.entry-b.result
    (left_of c.args.found.now) (left_of c.place.new.found) c.in-New.is c.entry-b.ensures.stands q.writes q.left c.requires.many c.requires.inside in
    let b = leaves (g.S.Store.cells c.place.new.store) (g.S.Store.cells c.place-in-New.new.store) (tree_of c.args.draft.now c.entry-b.result.right)
    (left_of c.place.new.found) (left_of c.place-in-New.new.found) 1 r.writes r.left a.many a.inside in
    omega (arith, b.many)

pub returns-in_err-write-in-New : goal.returns-in_err-write-in-New
returns-in_err-write-in-New g t c =
    let q = c.in_ok-left-in-New.ensures in
    let r = c.in_ok-right-in-New.ensures in
    let a = leaves_right (g.S.Store.cells c.args.store.now) (g.S.Store.cells c.place.new.store) c.args.draft.now c.args.link c.in-New.i c.entry-b.result
    (left_of c.args.found.now) (left_of c.place.new.found) c.in-New.is c.entry-b.ensures.stands q.writes q.left c.requires.many c.requires.inside in
    let b = leaves (g.S.Store.cells c.place.new.store) (g.S.Store.cells c.place-in-New.new.store) (tree_of c.args.draft.now c.entry-b.result.right)
    (left_of c.place.new.found) (left_of c.place-in-New.new.found) 1 r.writes r.left a.many a.inside in
    absurd (no_refusal (g.S.Store.cells c.place-in-New.new.store) c.next-n.result _
    (next_inside _ c.next-n.result (left_of c.place-in-New.new.found) c.next-n.ensures.value (omega (arith, b.many)) b.inside) c.in_err-write-in-New.ensures.value)

pub returns-in_ok-write-in-New : goal.returns-in_ok-write-in-New
returns-in_ok-write-in-New g t c =
    let q = c.in_ok-left-in-New.ensures in
    let r = c.in_ok-right-in-New.ensures in
    let n = c.next-n.ensures in
    let u = c.in_ok-write-in-New.ensures in
    let p = placed_new (g.S.Store.cells c.args.store.now) (g.S.Store.cells c.place.new.store) (g.S.Store.cells c.place-in-New.new.store) (g.S.Store.cells c.write.new.self)
    c.args.draft.now c.args.link c.in-New.i c.entry-b.result (left_of c.args.found.now) (left_of c.place.new.found) (left_of c.place-in-New.new.found) (left_of c.next-n.new.self)
    c.in_ok-left-in-New.left c.in_ok-right-in-New.right c.next-n.result c.in-New.is c.entry-b.ensures.stands
    (record { top = q.value; writes = q.writes; rest = q.left }) (record { top = r.value; writes = r.writes; rest = r.left }) n.value n.left u.after in
    record { value = p.top; writes = p.writes; left = p.rest; keeps = λ f. u.keeps (r.keeps (q.keeps f)) }
