use Rattle.store.proofs.Insides.{write_inside}
use Rattle.commits.proofs.Committing.{hung_root, hung_under, under_inside}
use Rattle.commits.proofs.writes.hang.Goals as goal

pub returns-in-None : goal.returns-in-None
returns-in-None g c =
    let p = hung_root (g.S.Store.cells c.args.store.now) c.args.joint c.args.n c.args.root.now c.in-None.is in
    record { value = tt; writes = p.0; root = p.1; keeps = λ f. f }

pub returns-in-Some : goal.returns-in-Some
returns-in-Some g c =
    let u = c.write.ensures in
    let inside = under_inside _ c.args.joint c.in-Some.joint c.in-Some.is c.requires in
    let p = hung_under (g.S.Store.cells c.args.store.now) (g.S.Store.cells c.write.new.self) c.args.joint c.in-Some.joint c.relinked.result c.args.n c.args.root.now
    c.in-Some.is c.relinked.ensures u.after in
    record { value = rw (u.value, write_inside (g.S.Store.cells c.args.store.now) c.in-Some.joint.above.number inside) tt; writes = p.0; root = p.1; keeps = u.keeps }
