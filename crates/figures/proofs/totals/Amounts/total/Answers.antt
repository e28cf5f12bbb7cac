use Rattle.std.proofs.Common.{◌≡◌, suc, sym, ap, ◌∙◌, arith}
use Rattle.std.proofs.lemmas.Int.{ints}
use Rattle.units.specs.Ranges.{accounts}
use Rattle.figures.specs.Meaning.{amount_at}
use Rattle.formulas.specs.Sums.{sum}
use Rattle.formulas.proofs.Steps.{sum_next}
use Rattle.formulas.proofs.Sums.{sum_none}
use Rattle.figures.proofs.totals.Amounts.total.Goals as goal

pub loop-amount-init : goal.loop-amount-init
loop-amount-init c = (sym (sum_none _), omega (arith, ints))

pub overflow_add-all : goal.overflow_add-all
overflow_add-all c = omega (arith, ints, c.args.self.now.modest (suc c.loop-amount.amount-index) (omega arith))

pub loop-amount-preserved : goal.loop-amount-preserved
loop-amount-preserved c = omega (arith, ints, c.args.self.now.modest (suc c.loop-amount.amount-index) (omega arith), sum_next c.loop-amount.amount-index (amount_at c.args.self.now.by_account))

pub returns : goal.returns
returns c =
    let end : c.loop-amount.amount-index ≡ accounts = omega arith in
    record { value = c.loop-amount.invariant.0 ∙ ap (λ n. sum n (amount_at c.args.self.now.by_account)) end; bound = omega (arith, ints) }
