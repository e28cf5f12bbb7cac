-- The number of each phase of an interval.
use Rattle.std.specs.Prelude.{ℕ}
use Rattle.rows.specs.declared.phase.Phase.{Phase}
use Rattle.rows.specs.declared.phase.Phase.TheVariants.{Reading, Preliminary, Final, FirstAdjusted, SecondAdjusted}

abbrev pub phase_number : Phase → ℕ
phase_number Reading = 1
phase_number Preliminary = 2
phase_number Final = 3
phase_number FirstAdjusted = 4
phase_number SecondAdjusted = 5
