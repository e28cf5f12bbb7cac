-- The first and the second adjustment: the checks in the order of their numbers, and what an accepted one changes.
use Rattle.std.specs.Prelude.{◌≡◌, ℕ, not, List, [], ◌∷◌, ◌++◌, ℤ, ◌+ℤ◌, Some, Option, nat_le, unsigned_abs}
use Rattle.std.specs.Option.{option_map}
use Rattle.units.specs.Checks.{Check}
use Rattle.units.specs.Ranges.{Account, accounts, balance_range, inside}
use Rattle.units.specs.Stamps.{window}
use Rattle.units.specs.Windows.{window_number}
use Rattle.units.specs.declared.window.Window.{Window}
use Rattle.units.specs.declared.window.Window.TheVariants.{Third, Fourth}
use Rattle.book.specs.Statement.{statement_checks}
use Rattle.calls.specs.declared.StampedCall.{StampedCall}
use Rattle.formulas.specs.Adjustment.{nmea_of}
use Rattle.formulas.specs.Sums.{sum}
use Rattle.gather.specs.declared.handed.Readings.{Readings}
use Rattle.rows.specs.Meaning.{IntervalSaid, FacilitySaid, LoadSaid, facility_rows, interval_named, load_rows}
use Rattle.rows.specs.Phases.{phase_number}
use Rattle.rows.specs.Values.{after_value, before_value}
use Rattle.rows.specs.declared.correction.Correction.{Correction}
use Rattle.rows.specs.declared.correction.Correction.TheVariants.{First, Second}
use Rattle.rows.specs.declared.phase.Phase.{Phase}
use Rattle.rows.specs.declared.phase.Phase.TheVariants.{Final, FirstAdjusted, SecondAdjusted}
use Rattle.house.specs.Open.{before_last, check, if_open, in_phase, moved_to, open_at, put_row}
use Rattle.house.specs.State.{HouseState, with_pending}
use Rattle.statement.specs.Statements.{is_stamped, stamped_key}
use Rattle.settlement.specs.Moves.{moves_in}

-- the phase that an adjustment by a correction wants
abbrev pub from_phase : Correction → Phase
from_phase First = Final
from_phase Second = FirstAdjusted

-- the phase that it leads to
abbrev pub to_phase : Correction → Phase
to_phase First = FirstAdjusted
to_phase Second = SecondAdjusted

-- the last window that is too early for it
abbrev pub last_window : Correction → Window
last_window First = Third
last_window Second = Fourth

-- what an adjustment adds to each account
abbrev pub adjusts : Correction → HouseState → IntervalSaid → List (Option FacilitySaid) → List (Option LoadSaid) → ℕ → ℤ
adjusts correction h i fs ls a = nmea_of (moves_in (before_value correction) (after_value correction) h.operator i fs ls) a

-- the same of the registers that are handed over
abbrev pub adjusts_by : Correction → HouseState → Readings → IntervalSaid → ℕ → ℤ
adjusts_by correction h readings i = adjusts correction h i (facility_rows readings.facilities.now) (load_rows readings.loads.now)

-- what keeps an open interval from an adjustment at that stamp
abbrev pub adjusting_stamp : Correction → StampedCall → IntervalSaid → List Check
adjusting_stamp correction c i =
    check 6 (before_last c.days c.minute i)
    ∷ check 7 (not (in_phase (phase_number (from_phase correction)) i))
    ∷ check 8 (nat_le (window (unsigned_abs c.days) (unsigned_abs c.minute)) (window_number (last_window correction)))
    ∷ []

-- the check that what would be pending after it lies within the limit; `adds` is what it adds to each account
abbrev pub pending_check : HouseState → (ℕ → ℤ) → Check
pending_check h adds = check 15 (not (inside balance_range (h.pending +ℤ sum accounts adds)))

-- the checks of an adjustment over a book that holds those balances and has room for that many postings; `adds` gives what
-- an interval's adjustment adds to each account
abbrev pub adjustment_checks : Correction → StampedCall → HouseState → List (Option IntervalSaid) → (IntervalSaid → ℕ → ℤ) → (ℕ → ℤ) → ℕ → List Check
adjustment_checks correction c h is adds held room =
    check 1 (not (is_stamped c))
    ∷ if_open (open_at is (stamped_key c)) (λ i. (adjusting_stamp correction c i ++ pending_check h (adds i) ∷ []) ++ statement_checks held room (adds i))

-- the intervals after an adjustment
abbrev pub adjusted_intervals : Correction → StampedCall → List (Option IntervalSaid) → List (Option IntervalSaid)
adjusted_intervals correction c is = put_row interval_named is (option_map (moved_to (to_phase correction) c.days c.minute) (open_at is (stamped_key c)))

-- the house after an adjustment: what it added to all accounts is pending
abbrev pub adjusted_house : HouseState → (ℕ → ℤ) → HouseState
adjusted_house h adds = with_pending (h.pending +ℤ sum accounts adds) h

-- the checks of an adjustment but for those of the book
abbrev pub planning_checks : Correction → StampedCall → HouseState → List (Option IntervalSaid) → (IntervalSaid → ℕ → ℤ) → List Check
planning_checks correction c h is adds =
    check 1 (not (is_stamped c))
    ∷ if_open (open_at is (stamped_key c)) (λ i. adjusting_stamp correction c i ++ pending_check h (adds i) ∷ [])

-- what is decided of an adjustment: its open interval, the house after it, and what it adds to each account
pub record Planned (c : StampedCall) (h : HouseState) (is : List (Option IntervalSaid)) (adds : IntervalSaid → ℕ → ℤ) (h' : HouseState) (amount : ℕ → ℤ) : Type 0 where
  pub interval : IntervalSaid
  pub opened : open_at is (stamped_key c) ≡ Some interval
  pub house : h' ≡ adjusted_house h (adds interval)
  pub amounts : (a : ℕ) → Account a → amount a ≡ adds interval a
