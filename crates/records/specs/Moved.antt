-- What the code's differences say, as the adjustments' definitions read them.
use Rattle.std.specs.Option.{option_map}
use Rattle.formulas.specs.Adjustment.{Moves}
use Rattle.formulas.specs.Basis.{Injection, Withdrawal}
use Rattle.records.specs.Meaning.{injection_of, numbered, withdrawal_of}
use Rattle.records.specs.declared.moves.Differences.{Differences}
use Rattle.records.specs.declared.entries.FacilityWithin.{FacilityWithin}
use Rattle.records.specs.declared.entries.LoadWithin.{LoadWithin}

-- how far a facility's reading moved
abbrev pub injection_moved : FacilityWithin 20000000 → Injection
injection_moved = injection_of

-- how far a load's reading moved
abbrev pub withdrawal_moved : LoadWithin 10000000 → Withdrawal
withdrawal_moved = withdrawal_of

-- what an adjustment is worked from, as the differences hold it
abbrev pub moves_of : Differences → Moves
moves_of m = record {
  usep = m.usep.0;
  rate = m.rate.0;
  uplift = m.uplift.0;
  facility = λ n. option_map injection_of (numbered m.facilities n);
  load = λ a. option_map withdrawal_of (numbered m.loads a);
  operator = m.operator;
}
