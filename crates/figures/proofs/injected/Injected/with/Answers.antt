use Rattle.std.proofs.Common.{◌≡◌, ◌*ℤ◌, ap, ◌∙◌, arith}
use Rattle.std.proofs.lemmas.Int.{ints}
use Rattle.units.specs.Ranges.{Around}
use Rattle.formulas.specs.Figures.{at_least_0}
use Rattle.figures.specs.Meaning.{injection_of}
use Rattle.formulas.proofs.Bounds.{product_around}
use Rattle.figures.proofs.Gathered.{far_within, grown_own, part_around}
use Rattle.figures.proofs.injected.Injected.with.Goals as goal

pub overflow_add-result-3 : goal.overflow_add-result-3
overflow_add-result-3 g c =
    let part : Around 20000000 c.positive-injected.result.0 = rw c.positive-injected.ensures (part_around 20000000 _ (far_within c.args.f.now)) in
    omega (arith, ints)

pub overflow_add-result-4 : goal.overflow_add-result-4
overflow_add-result-4 g c = omega (arith, ints)

pub overflow_add-result-5 : goal.overflow_add-result-5
overflow_add-result-5 g c = omega (arith, ints, product_around 1000000 20000000 c.args.f.now.mep.0 c.args.f.now.ieq.0 c.args.f.now.mep_ok (far_within c.args.f.now))

pub overflow_add-result-6 : goal.overflow_add-result-6
overflow_add-result-6 g c =
    let part : Around 20000000 c.positive-injected.result.0 = rw c.positive-injected.ensures (part_around 20000000 _ (far_within c.args.f.now)) in
    omega (arith, ints, product_around 1000000 20000000 c.args.f.now.mep.0 c.positive-injected.result.0 c.args.f.now.mep_ok part)

pub returns : goal.returns
returns g c =
    let f = c.args.f.now in
    let far = far_within f in
    let part : Around 20000000 c.positive-injected.result.0 = rw c.positive-injected.ensures (part_around 20000000 _ far) in
    let one = product_around 1000000 20000000 f.mep.0 f.ieq.0 f.mep_ok far in
    let two = product_around 1000000 20000000 f.mep.0 c.positive-injected.result.0 f.mep_ok part in
    let drawn : c.at-2.result.0 ≡ f.mep.0 *ℤ at_least_0 f.ieq.0 = c.at-2.ensures ∙ ap (λ z. f.mep.0 *ℤ z) c.positive-injected.ensures in
    grown_own (injection_of f) c.args.self _ (omega (arith, ints)) (omega (arith, ints)) (omega (arith, ints)) (omega (arith, ints)) (omega (arith, ints)) (omega (arith, ints))
