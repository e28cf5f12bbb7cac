use Rattle.std.proofs.Common.{◌≡◌, ◌-ℤ◌, ◌*ℤ◌, ap, ◌∙◌, arith}
use Rattle.std.proofs.lemmas.Int.{ints}
use Rattle.formulas.proofs.Bounds.{product_around}
use Rattle.figures.proofs.vesting.from_tranche.Goals as goal

pub returns-in-Some : goal.returns-in-Some
returns-in-Some c =
    let v = c.in-Some.v in
    let paid : c.at.result.0 ≡ (v.price.0 -ℤ c.args.reference.0) *ℤ v.quantity.0 = c.at.ensures ∙ ap (λ z. z *ℤ v.quantity.0) (omega (arith, ints)) in
    let far = product_around 2000000 10000000 (v.price.0 -ℤ c.args.reference.0) v.quantity.0 (omega (arith, ints)) (omega (arith, ints, v.quantity_ok)) in
    record { value = rw c.in-Some.is paid; bound = omega (arith, ints) }
