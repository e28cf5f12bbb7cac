use Rattle.std.proofs.Common.{◌≡◌, ◌*◌}
use Rattle.units.specs.Ranges.{Around}
use Rattle.figures.specs.Meaning.{amount_at}
use Rattle.formulas.specs.Sums.{sum}
use Rattle.figures.proofs.totals.Amounts.total.Given as goal

abbrev pub invariant-loop-amount : goal.invariant-loop-amount
invariant-loop-amount l = (l.all ≡ sum l.amount-index (amount_at l.self.by_account)) × Around (l.amount-index * 10000000000000000) l.all
