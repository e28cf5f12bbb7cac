-- What a reading sets, by the numbers of its interval's phase and of its stamp's window.
use Rattle.std.specs.Prelude.{ℕ, cond, not, ◌&&◌, ◌||◌, List, [], ◌∷◌, is_some, Some, None, Option, ◌==◌, nat_le}
use Rattle.units.specs.Checks.{Check}
use Rattle.rows.specs.declared.correction.Correction.{Correction}
use Rattle.rows.specs.declared.correction.Correction.TheVariants.{First, Second}

-- the sort of a reading: a base reading (no correction) in windows 1 and 2 until the interval is final, the first correction
-- in window 3 of a final interval, the second in window 4 of one that is final or once adjusted; in any other phase and
-- window there is no sort
abbrev pub sort_for : ℕ → ℕ → Option (Option Correction)
sort_for phase window =
    cond (nat_le phase 2 && nat_le window 2) (Some None)
    (cond (phase == 3 && window == 3) (Some (Some First))
    (cond ((phase == 3 || phase == 4) && window == 4) (Some (Some Second)) None))

-- what keeps a reading from being taken, in the order of the numbers
abbrev pub sort_checks : ℕ → ℕ → List Check
sort_checks phase window =
    record { number = 7; met = (phase == 5) }
    ∷ record { number = 8; met = not (is_some (sort_for phase window)) }
    ∷ []
