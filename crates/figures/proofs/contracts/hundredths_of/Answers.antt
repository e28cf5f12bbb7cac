use Rattle.std.proofs.Common.{◌≡◌, ℕ, ◌≤◌, ℤ, pos, ◌*ℤ◌, ap, ◌∙◌, arith, w64, SFits, to_z, of_z}
use mir.Syntax.{w128}
use Rattle.std.proofs.lemmas.Int.{ints, to_z-of_z, to_z_pos}
use Rattle.units.specs.Division.{floor}
use Rattle.units.specs.Ranges.{Within}
use Rattle.formulas.specs.Figures.{part}
use Rattle.formulas.proofs.Bounds.{part_up_to, product_up_to}
use Rattle.figures.proofs.contracts.hundredths_of.Goals as goal

-- the product as the code holds it
product : (h : ℕ) (q : ℤ) → h ≤ 10000 → Within (pos 0) (pos 10000000000) q
    → (to_z w128 h *ℤ to_z w128 (of_z w128 (to_z w64 (of_z w64 q))) ≡ pos h *ℤ q) × SFits w128 (pos h *ℤ q)
product h q few ok =
    let small : SFits w64 q = omega (arith, ints) in
    let wide : SFits w128 q = omega (arith, ints) in
    let bound = product_up_to 10000 10000000000 (pos h) q (omega (arith, ints)) ok in
    (simp (to_z-of_z, to_z_pos w128 h (omega arith)), omega (arith, ints))

pub overflow_mul-hundredths : goal.overflow_mul-hundredths
overflow_mul-hundredths c = let p = product c.args.hundredths c.args.quantity.0 c.requires.fraction c.requires.quantity in rw p.0 p.1

-- the quotient as the code finds it
quotient : (h : ℕ) (q found : ℤ) → h ≤ 10000 → Within (pos 0) (pos 10000000000) q
    → found ≡ floor (to_z w128 (of_z w128 (to_z w128 h *ℤ to_z w128 (of_z w128 (to_z w64 (of_z w64 q)))))) 10000 → (found ≡ part h q) × Within (pos 0) (pos 10000000000) found
quotient h q found few ok e =
    let p = product h q few ok in
    let is : found ≡ part h q = e ∙ ap (λ z. floor (to_z w128 (of_z w128 z)) 10000) p.0 ∙ ap (λ z. floor z 10000) (to_z-of_z w128 _ p.1) in
    (is, rw is (part_up_to 10000000000 h q few ok))

pub overflow_cast-result : goal.overflow_cast-result
overflow_cast-result c =
    let is = quotient c.args.hundredths c.args.quantity.0 c.in-Some.whole c.requires.fraction c.requires.quantity c.in-Some.ensures.1 in
    omega (arith, ints)

pub returns-in-Some : goal.returns-in-Some
returns-in-Some c =
    let is = quotient c.args.hundredths c.args.quantity.0 c.in-Some.whole c.requires.fraction c.requires.quantity c.in-Some.ensures.1 in
    omega (arith, ints)
