use Rattle.std.proofs.Common.{◌≡◌, suc, sym, ap, ◌∙◌, arith, rules}
use Rattle.std.proofs.lemmas.Int.{ints}
use Rattle.units.specs.Ranges.{accounts}
use Rattle.formulas.specs.Figures.{weq_of}
use Rattle.figures.specs.Meaning.{basis_of}
use Rattle.formulas.specs.Sums.{sum}
use Rattle.formulas.proofs.Bounds.{weq_up_to, loads_up_to}
use Rattle.figures.proofs.Gathered.{inputs_in_ranges}
use Rattle.formulas.proofs.Steps.{sum_next}
use Rattle.formulas.proofs.Sums.{sum_none}
use Rattle.figures.proofs.Written.{drawn_at}
use Rattle.figures.proofs.injections.Injections.total_withdrawn.Goals as goal

pub loop-load-init : goal.loop-load-init
loop-load-init c = sym (sum_none _)

pub overflow_add-all : goal.overflow_add-all
overflow_add-all c =
    let i = c.args.self.now.inputs.now in
    let w = drawn_at i c.loop-load.load-index _ _ (search rules) c.withdrawn-all.ensures.value in
    let ok = inputs_in_ranges i in
    omega (arith, ints, loads_up_to (basis_of i) ok c.loop-load.load-index, weq_up_to (basis_of i) ok (suc c.loop-load.load-index))

pub loop-load-preserved : goal.loop-load-preserved
loop-load-preserved c =
    let i = c.args.self.now.inputs.now in
    let w = drawn_at i c.loop-load.load-index _ _ (search rules) c.withdrawn-all.ensures.value in
    let ok = inputs_in_ranges i in
    omega (arith, ints, loads_up_to (basis_of i) ok c.loop-load.load-index, weq_up_to (basis_of i) ok (suc c.loop-load.load-index), sum_next c.loop-load.load-index (weq_of (basis_of i)))

pub returns : goal.returns
returns c = let end : c.loop-load.load-index ≡ accounts = omega arith in c.loop-load.invariant ∙ ap (λ n. sum n (weq_of (basis_of c.args.self.now.inputs.now))) end
