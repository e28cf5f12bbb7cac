-- Preliminary statements and their withdrawal: the checks of each in the order of their numbers, and what an accepted one
-- changes.
use Rattle.std.specs.Prelude.{◌≡◌, ℕ, Bool, false, not, ◌&&◌, List, [], ◌∷◌, ◌++◌, drop, Some, None, Option, ◌==◌, nat_lt, unsigned_abs}
use Rattle.std.specs.Option.{option_map}
use Rattle.units.specs.Checks.{Check}
use Rattle.units.specs.Ranges.{accounts}
use Rattle.units.specs.Stamps.{window}
use Rattle.formulas.specs.Basis.{Basis}
use Rattle.formulas.specs.Figures.{settling_checks}
use Rattle.figures.specs.Settled.{LinesAre}
use Rattle.figures.specs.declared.line.Line.{Line}
use Rattle.calls.specs.declared.StampedCall.{StampedCall}
use Rattle.register.specs.Keys.{Numbers}
use Rattle.rows.specs.Meaning.{IntervalSaid, interval_named}
use Rattle.rows.specs.declared.phase.Phase.TheVariants.{Reading, Preliminary}
use Rattle.house.specs.Calls.{half_hour_key, is_half_hour, is_stamp}
use Rattle.house.specs.Open.{before_last, check, if_open, in_phase, moved_to, open_at, put_row}
use Rattle.house.specs.State.{key_of}
use Rattle.statement.specs.declared.token.Statement.{Statement}

-- a half hour and a stamp in their ranges
abbrev pub is_stamped : StampedCall → Bool
is_stamped c = is_half_hour c.day c.interval && is_stamp c.days c.minute

-- the key of a call's half hour
abbrev pub stamped_key : StampedCall → Numbers
stamped_key c = half_hour_key c.day c.interval

-- what keeps an open interval from a preliminary statement at that stamp: a stamp before the last, a phase other than
-- reading, a stamp in window 1
abbrev pub preliminary_stamp : StampedCall → IntervalSaid → List Check
preliminary_stamp c i =
    check 6 (before_last c.days c.minute i)
    ∷ check 7 (not (in_phase 1 i))
    ∷ check 8 (window (unsigned_abs c.days) (unsigned_abs c.minute) == 1)
    ∷ []

-- the checks of a preliminary statement with n lines to write into; `basis` gives what an interval's figures are worked from
abbrev pub preliminary_checks : StampedCall → List (Option IntervalSaid) → ℕ → (IntervalSaid → Basis) → List Check
preliminary_checks c is n basis =
    check 1 (not (is_stamped c))
    ∷ if_open (open_at is (stamped_key c)) (λ i. preliminary_stamp c i ++ (check 11 (nat_lt n accounts) ∷ settling_checks (basis i)))

-- the intervals after a preliminary statement
abbrev pub preliminary_intervals : StampedCall → List (Option IntervalSaid) → List (Option IntervalSaid)
preliminary_intervals c is = put_row interval_named is (option_map (moved_to Preliminary c.days c.minute) (open_at is (stamped_key c)))

-- the first 96 lines are those of the half hour of the open interval, and the lines beyond are as before
pub record LinesWritten (k : Numbers) (is : List (Option IntervalSaid)) (basis : IntervalSaid → Basis) (lines lines' : List Line) : Type 0 where
  pub written : (i : IntervalSaid) → open_at is k ≡ Some i → LinesAre (basis i) lines'
  pub beyond : drop accounts lines' ≡ drop accounts lines

-- the statement has the house's number, the day and the interval
pub record StatementOf (number : ℕ) (c : StampedCall) (s : Statement) : Type 0 where
  pub house : s.house ≡ number
  pub half_hour : key_of s.half_hour ≡ stamped_key c

-- whether there is an open interval, and it is in the preliminary phase
abbrev pub is_preliminary : Option IntervalSaid → Bool
is_preliminary None = false
is_preliminary (Some i) = in_phase 2 i

-- whether a statement is of a house of that number and its interval in the preliminary phase
abbrev pub belongs : Statement → ℕ → List (Option IntervalSaid) → Bool
belongs s number is = s.house == number && is_preliminary (open_at is (key_of s.half_hour))

-- the checks of a withdrawal
abbrev pub withdrawal_checks : Statement → ℕ → List (Option IntervalSaid) → List Check
withdrawal_checks s number is = check 5 (not (belongs s number is)) ∷ []

-- the interval in its reading phase again
abbrev pub reading_again : IntervalSaid → IntervalSaid
reading_again i = record { key = i.key; usep = i.usep; rate = i.rate; phase = Reading; days = i.days; minute = i.minute; uplift = i.uplift }

-- the intervals after a withdrawal
abbrev pub withdrawal_intervals : Statement → List (Option IntervalSaid) → List (Option IntervalSaid)
withdrawal_intervals s is = put_row interval_named is (option_map reading_again (open_at is (key_of s.half_hour)))
