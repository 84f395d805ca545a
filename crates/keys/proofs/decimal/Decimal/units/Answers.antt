use Rattle.std.proofs.Common.{◌≡◌, ◌-◌, ◌^◌, pos, ◌*ℤ◌, ap, ◌∙◌, w64, SFits, to_z, of_z, rules}
use Rattle.std.proofs.lemmas.Int.{to_z-of_z}
use Rattle.keys.specs.Decimals.{coefficient_fault, scale_fault, scaled}
use Rattle.keys.proofs.Scaling.{first_none, coefficient_small, power_small, product_fits}
use Rattle.keys.proofs.decimal.Decimal.units.Goals as goal

-- the product that the code computes is the key's value in units
product : (c : goal.After-from-2) →
    to_z w64 (of_z w64 c.args.self.now.coefficient) *ℤ to_z w64 (of_z w64 c.from-2.result) ≡ scaled c.args.self.now
unfolding scaled
product c =
    let k = c.args.self.now in
    let f : SFits w64 c.args.self.now.coefficient = search rules in
    let p : SFits w64 c.from-2.result = search rules in
    let power : c.from-2.result ≡ pos (10 ^ (9 - k.scale)) =
    c.from-2.ensures ∙ ap pos (c.pow-power.ensures ∙ ap (λ n. 10 ^ n) c.from.ensures) in
    ap (λ z. z *ℤ to_z w64 (of_z w64 c.from-2.result)) (to_z-of_z w64 k.coefficient f)
    ∙ ap (λ z. k.coefficient *ℤ z) (to_z-of_z w64 c.from-2.result p ∙ power)

fits : (c : goal.After-from-2) → SFits w64 (scaled c.args.self.now)
unfolding scaled
fits c =
    let k = c.args.self.now in
    product_fits k.coefficient (10 ^ (9 - k.scale))
    (coefficient_small k.coefficient (first_none (coefficient_fault k.coefficient) (scale_fault k.scale) c.requires))
    (power_small k.scale)

pub returns : goal.returns
returns c = ap (λ z. to_z w64 (of_z w64 z)) (product c) ∙ to_z-of_z w64 (scaled c.args.self.now) (fits c)
