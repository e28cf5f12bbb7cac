-- Readings: the checks of each in the order of their numbers, and what an accepted one changes. Facility and load readings
-- differ in what their rows say, in which row a reading may correct, and in what a correction changes.
use Rattle.std.specs.Prelude.{ℕ, Bool, true, false, not, ◌&&◌, List, [], ◌∷◌, ℤ, is_some, Some, None, Option, ◌==◌, int_le, unsigned_abs}
use Rattle.std.specs.Option.{option_map}
use Rattle.units.specs.Checks.{Check}
use Rattle.units.specs.Stamps.{earlier, window}
use Rattle.calls.specs.declared.FacilityCall.{FacilityCall}
use Rattle.calls.specs.declared.LoadCall.{LoadCall}
use Rattle.register.specs.Keys.{Numbers}
use Rattle.register.specs.Rows.{lookup, place}
use Rattle.rows.specs.Meaning.{IntervalSaid, FacilitySaid, LoadSaid, facility_named, interval_named, load_named}
use Rattle.rows.specs.Phases.{phase_number}
use Rattle.rows.specs.Sorts.{sort_for}
use Rattle.rows.specs.Values.{corrected}
use Rattle.rows.specs.declared.correction.Correction.{Correction}
use Rattle.house.specs.Calls.{facility_given, is_facility, is_load, load_given}
use Rattle.house.specs.Open.{check, half_hour_of, if_open, moved_at, open_at, put_row}
use Rattle.house.specs.declared.stamped.Stamped.{Stamped}

-- the sort of a reading with that stamp, by its interval's phase
abbrev pub sort_at : ℕ → ℕ → IntervalSaid → Option (Option Correction)
sort_at d m i = sort_for (phase_number i.phase) (window d m)

-- the sort of a reading of an interval that may not be open
abbrev pub sort_of : ℕ → ℕ → Option IntervalSaid → Option (Option Correction)
sort_of d m None = None
sort_of d m (Some i) = sort_at d m i

-- what keeps a reading with that stamp out of its interval
abbrev pub stamp_checks : ℕ → ℕ → IntervalSaid → List Check → List Check
stamp_checks d m i more =
    check 6 (earlier d m i.days i.minute)
    ∷ check 7 (phase_number i.phase == 5)
    ∷ check 8 (not (is_some (sort_at d m i)))
    ∷ more

-- the interval after an accepted reading: in the phase that it was, with the reading's stamp as its last
abbrev pub stamped : ℕ → ℕ → IntervalSaid → IntervalSaid
stamped d m i = moved_at i.phase d m i

-- whether a reading of that sort is a correction
abbrev pub corrects : Option (Option Correction) → Bool
corrects None = false
corrects (Some None) = false
corrects (Some (Some c)) = true

-- what a kind of reading is, by what its rows say: the key of a row, whether a new reading may correct an old row, and
-- what its correction leaves of that row
pub record Kind (S : Type 0) : Type 0 where
  pub key : S → Numbers
  pub may_correct : S → S → Bool
  pub corrected : Correction → S → S → S

-- a reading as it is handed in: the row that it makes, and its stamp by days and minute
pub record Handed (S : Type 0) : Type 0 where
  pub row : S
  pub days : ℕ
  pub minute : ℕ

-- what a row with its stamp hands in
abbrev pub handed : {R S : Type 0} → (R → S) → Stamped R → Handed S
handed says t = record { row = says t.row; days = t.stamp.days; minute = t.stamp.minute }

module _ {S : Type 0} (kind : Kind S) where
  -- whether there is a row that the reading may correct
  abbrev pub may_correct : S → Option S → Bool
  may_correct new None = false
  may_correct new (Some old) = kind.may_correct new old

  -- the row that a reading of that sort leaves: a base reading replaces it, a correction changes it
  abbrev pub left : S → Option (Option Correction) → Option S → Option S
  left new None old = None
  left new (Some None) old = Some new
  left new (Some (Some c)) old = option_map (kind.corrected c new) old

  -- the checks on a reading's row: 9 where it is a correction and there is none that it may correct, 10 where there is no
  -- place for it
  abbrev pub row_checks : S → Option (Option Correction) → List (Option S) → List Check
  row_checks new sort rows =
      check 9 (corrects sort && not (may_correct new (lookup kind.key rows (kind.key new))))
      ∷ check 10 (not (is_some (place kind.key rows (kind.key new))))
      ∷ []

  -- the open interval of a reading
  abbrev pub interval_of : Handed S → List (Option IntervalSaid) → Option IntervalSaid
  interval_of h is = open_at is (half_hour_of (kind.key h.row))

  -- the checks of a reading whose numbers lie in their ranges
  abbrev pub reading_checks : Handed S → List (Option IntervalSaid) → List (Option S) → List Check
  reading_checks h is rows = if_open (interval_of h is) (λ i. stamp_checks h.days h.minute i (row_checks h.row (sort_at h.days h.minute i) rows))

  -- the intervals after an accepted reading, and the rows
  abbrev pub intervals_after : Handed S → List (Option IntervalSaid) → List (Option IntervalSaid)
  intervals_after h is = put_row interval_named is (option_map (stamped h.days h.minute) (interval_of h is))

  abbrev pub rows_after : Handed S → List (Option IntervalSaid) → List (Option S) → List (Option S)
  rows_after h is rows = put_row kind.key rows (left h.row (sort_of h.days h.minute (interval_of h is)) (lookup kind.key rows (kind.key h.row)))

-- whether two prices are the same
abbrev pub same_price : ℤ → ℤ → Bool
same_price p q = int_le p q && int_le q p

-- a facility's reading may correct a row of the same account and price, and changes its energy
abbrev pub facility_kind : Kind FacilitySaid
facility_kind = record {
  key = facility_named;
  may_correct = λ new old. old.account == new.account && same_price old.mep new.mep;
  corrected = λ c new old. record { key = old.key; account = old.account; mep = old.mep; ieq = corrected c old.ieq new.ieq.base };
}

-- a load's reading may correct any row, and changes its quantities
abbrev pub load_kind : Kind LoadSaid
load_kind = record {
  key = load_named;
  may_correct = λ new old. true;
  corrected = λ c new old. record { key = old.key; weq = corrected c old.weq new.weq.base; wfq = corrected c old.wfq new.wfq.base };
}

-- a facility's reading: what is handed in, its checks, and the intervals and the facilities after an accepted one
abbrev pub facility_handed : FacilityCall → Handed FacilitySaid
facility_handed c = record { row = facility_given c; days = unsigned_abs c.days; minute = unsigned_abs c.minute }

abbrev pub facility_checks : FacilityCall → List (Option IntervalSaid) → List (Option FacilitySaid) → List Check
facility_checks c is fs = check 1 (not (is_facility c)) ∷ reading_checks facility_kind (facility_handed c) is fs

abbrev pub facility_intervals : FacilityCall → List (Option IntervalSaid) → List (Option IntervalSaid)
facility_intervals c is = intervals_after facility_kind (facility_handed c) is

abbrev pub facilities_after : FacilityCall → List (Option IntervalSaid) → List (Option FacilitySaid) → List (Option FacilitySaid)
facilities_after c is fs = rows_after facility_kind (facility_handed c) is fs

-- a load's reading: what is handed in, its checks, and the intervals and the loads after an accepted one
abbrev pub load_handed : LoadCall → Handed LoadSaid
load_handed c = record { row = load_given c; days = unsigned_abs c.days; minute = unsigned_abs c.minute }

abbrev pub load_checks : LoadCall → List (Option IntervalSaid) → List (Option LoadSaid) → List Check
load_checks c is ls = check 1 (not (is_load c)) ∷ reading_checks load_kind (load_handed c) is ls

abbrev pub load_intervals : LoadCall → List (Option IntervalSaid) → List (Option IntervalSaid)
load_intervals c is = intervals_after load_kind (load_handed c) is

abbrev pub loads_after : LoadCall → List (Option IntervalSaid) → List (Option LoadSaid) → List (Option LoadSaid)
loads_after c is ls = rows_after load_kind (load_handed c) is ls
