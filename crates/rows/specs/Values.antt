-- The three values of a metered quantity: a value that was never corrected is the one before it.
use Rattle.std.specs.Prelude.{ℤ, Some}
use Rattle.std.specs.Option.{unwrap_or}
use Rattle.units.specs.Ranges.{Within}
use Rattle.rows.specs.declared.correction.Correction.{Correction}
use Rattle.rows.specs.declared.correction.Correction.TheVariants.{First, Second}
use Rattle.rows.specs.declared.metered.Metered.{Metered}

-- the value before any correction
abbrev pub base_value : Metered → ℤ
base_value m = m.base

-- the value after the first correction
abbrev pub first_value : Metered → ℤ
first_value m = unwrap_or m.first m.base

-- the value after the second correction
abbrev pub second_value : Metered → ℤ
second_value m = unwrap_or m.second (first_value m)

-- the value before a correction, and the value after it
abbrev pub before_value : Correction → Metered → ℤ
before_value First = base_value
before_value Second = first_value

abbrev pub after_value : Correction → Metered → ℤ
after_value First = first_value
after_value Second = second_value

-- the quantity with that value as its first, or as its second correction
abbrev pub corrected : Correction → Metered → ℤ → Metered
corrected First m z = record { base = m.base; first = Some z; second = m.second }
corrected Second m z = record { base = m.base; first = m.first; second = Some z }

-- each of the three values lies from low to high
abbrev pub EachWithin : ℤ → ℤ → Metered → Type 0
EachWithin low high m = Within low high (base_value m) × Within low high (first_value m) × Within low high (second_value m)
