use Rattle.std.proofs.Common.{sym, ap, ◌∙◌, subst, rules}
use Rattle.std.proofs.lemmas.Result.{err_from_is_err_and}
use Rattle.std.specs.Option.{ok_or}
use Rattle.edits.specs.declared.fault.Doing.TheVariants.{Rotation}
use Rattle.edits.specs.declared.fault.Refusal.TheVariants.{Resting}
use Rattle.stacks.specs.Held.{held}
use Rattle.search.specs.Paths.{lowest, above}
use Rattle.edits.specs.Calls.{sized_in, good_in}
use Rattle.edits.proofs.Rotating.{during_ok, during_err}
use Rattle.edits.proofs.Settling.{ends_resting, ends_unread, ends_treated, ends_untreated}
use Rattle.edits.proofs.tree.Tree.advance.Goals as goal

pub returns-in_err-n : goal.returns-in_err-n
unfolding lowest
returns-in_err-n g c =
    let p = err_from_is_err_and c.from_residual.result c.from_residual.ensures.1 in
    let e = c.in_err-n.ensures.value ∙ ap (λ o. ok_or o Resting) c.in_err-n.ensures.ok_part in
    let x = ends_resting (g.S.Store.cells c.args.store.now) (held c.args.self.now.path) c.args.self.now.root c.args.sessions c.from_residual.result (sym c.in_err-n.ensures.ok_part ∙ c.last.ensures) cc in
    record { edits = x.edits; inside = x; keeps = λ h. h }

pub returns-in_err-w : goal.returns-in_err-w
unfolding lowest
returns-in_err-w g c =
    let p = err_from_is_err_and c.from_residual-in_err-w.result c.from_residual-in_err-w.ensures.1 in
    let e = during_err Rotation c.weigh_up.result _ c.in_err-w.ensures in
    let x = ends_unread (g.S.Store.cells c.args.store.now) (held c.args.self.now.path) c.args.self.now.root c.args.sessions c.in_ok-n.n e.0 _ _ _ (sym c.in_ok-n.ensures.ok_part ∙ c.last.ensures)
    (sym (ap (sized_in c.clear.new.self) e.1) ∙ c.weigh_up.ensures.value) p.1 p.2 e.2 in
    record { edits = x.edits; inside = x; keeps = λ h. h }

pub treat-requires : goal.treat-requires
treat-requires g c =
    let e = during_ok Rotation c.weigh_up.result c.in_ok-w.w c.in_ok-w.ensures in
    let v = sym (ap (sized_in c.clear.new.self) e) ∙ c.weigh_up.ensures.value in
    let good = subst (good_in c.clear.new.self) e c.weigh_up.ensures.good in
    (search rules, (record { made = c.clear.ensures.made; gone = c.clear.ensures.gone; left = good.0; right = good.1 }, (c.in_ok-n.n, v)))

pub returns-in_err-treat : goal.returns-in_err-treat
unfolding lowest
returns-in_err-treat g c =
    let e = during_ok Rotation c.weigh_up.result c.in_ok-w.w c.in_ok-w.ensures in
    let v = sym (ap (sized_in c.clear.new.self) e) ∙ c.weigh_up.ensures.value in
    let p = err_from_is_err_and c.from_residual-in_err-treat.result c.from_residual-in_err-treat.ensures.1 in
    let t = c.in_err-treat.ensures in
    let x = ends_untreated (g.S.Store.cells c.args.store.now) (held c.args.self.now.path) c.args.self.now.root c.args.sessions (g.S.Store.cells c.treat.new.store) c.in_ok-n.n _ _ _ _ _ _
    (sym c.in_ok-n.ensures.ok_part ∙ c.last.ensures) v (ap held t.path) t.turns p.1 p.2 in
    record { edits = x.edits; inside = x; keeps = t.keeps }

pub returns : goal.returns
unfolding lowest above
returns g c =
    let e = during_ok Rotation c.weigh_up.result c.in_ok-w.w c.in_ok-w.ensures in
    let v = sym (ap (sized_in c.clear.new.self) e) ∙ c.weigh_up.ensures.value in
    let t = c.in_ok-treat.ensures in
    let q = c.pop.ensures.rest ∙ ap above (ap held t.path) in
    let x = ends_treated (g.S.Store.cells c.args.store.now) (held c.args.self.now.path) c.args.self.now.root c.args.sessions (g.S.Store.cells c.treat.new.store) c.in_ok-n.n c.len.result _ _ (held c.pop.new.self)
    (sym c.in_ok-n.ensures.ok_part ∙ c.last.ensures) v q c.len.ensures.value t.turns in
    record { edits = x.edits; inside = x; keeps = t.keeps }
