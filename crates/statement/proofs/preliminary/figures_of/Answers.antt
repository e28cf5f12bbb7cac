use Rattle.std.proofs.Common.{IfOk, ap, ◌∙◌, subst}
use Rattle.units.specs.Checks.{first_met}
use Rattle.figures.specs.Settled.{FiguresAre}
use Rattle.formulas.specs.Basis.{Basis}
use Rattle.formulas.specs.Figures.{settling_checks}
use Rattle.house.specs.State.{house_says}
use Rattle.statement.proofs.Gathered.{basis_said}
use Rattle.statement.proofs.preliminary.figures_of.Goals as goal

pub returns : goal.returns
returns c =
    let prices = c.terms-terms.ensures.prices in
    let standing = c.terms-terms.ensures.house in
    let same = c.inputs_of-inputs.ensures
    ∙ basis_said c.terms-terms.result (house_says c.args.house.now) c.args.interval.now c.args.rows.now.readings.facilities.now c.args.rows.now.readings.loads.now c.args.rows.now.contracts.now c.args.rows.now.vestings.now
    (ap (λ p. p.0) prices.0) (ap (λ p. p.0) prices.1) standing.2 standing.0 standing.1 in
    record {
      answer = c.settle.ensures.number ∙ ap (λ i. first_met (settling_checks i)) same;
      figures = subst (λ (i : Basis). IfOk c.settle.result (FiguresAre i)) same c.settle.ensures.figures;
    }
