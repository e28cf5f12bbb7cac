use Rattle.std.proofs.Common.{subst, ◌∙◌}
use Rattle.units.specs.Ranges.{accounts}
use Rattle.formulas.specs.Adjustment.{nmea_of}
use Rattle.formulas.proofs.Sums.{sum_same}
use Rattle.figures.specs.Meaning.{AmountsAre}
use Rattle.records.specs.Moved.{moves_of}
use Rattle.records.specs.declared.moves.Differences.{Differences}
use Rattle.adjustment.proofs.adjust.adjustments.Goals as goal

pub returns : goal.returns
returns c =
    let each = subst (λ (d : Differences). AmountsAre c.amounts-amounts.result.by_account (nmea_of (moves_of d))) c.of.ensures c.amounts-amounts.ensures in
    record { amounts = each; total = c.total.ensures.value ∙ sum_same accounts _ (nmea_of (moves_of c.args.differences.now)) (λ a low high. each a (low, high)) }
