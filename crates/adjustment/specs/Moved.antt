-- What an adjustment of a half hour comes to.
use Rattle.std.specs.Prelude.{◌≡◌}
use Rattle.units.specs.Ranges.{accounts}
use Rattle.formulas.specs.Adjustment.{Moves, nmea_of}
use Rattle.formulas.specs.Sums.{sum}
use Rattle.figures.specs.Meaning.{AmountsAre}
use Rattle.adjustment.specs.declared.moved.Adjustments.{Adjustments}

-- every account's adjustment, and what all of them come to
pub record Adjusted (m : Moves) (r : Adjustments) : Type 0 where
  pub amounts : AmountsAre r.amounts (nmea_of m)
  pub total : r.total.0 ≡ sum accounts (nmea_of m)
