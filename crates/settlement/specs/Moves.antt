-- How far the readings of an open interval moved, as the registers say it.
use Rattle.std.specs.Prelude.{◌≡◌, ℕ, List, ℤ, pos, ◌+ℤ◌, ◌-ℤ◌, Option}
use Rattle.std.specs.Option.{option_map, unwrap_or}
use Rattle.formulas.specs.Adjustment.{Moves, nmea_of}
use Rattle.formulas.specs.Basis.{Injection, Withdrawal}
use Rattle.register.specs.Keys.{numbered_key}
use Rattle.register.specs.Rows.{lookup}
use Rattle.rows.specs.Meaning.{IntervalSaid, FacilitySaid, LoadSaid, facility_named, load_named}
use Rattle.rows.specs.Values.{base_value, first_value, second_value}
use Rattle.rows.specs.declared.metered.Metered.{Metered}

-- how far a facility moved from one value of its energy to a later one
abbrev pub injection_moved_in : (Metered → ℤ) → (Metered → ℤ) → FacilitySaid → Injection
injection_moved_in before after r = record { account = r.account; mep = r.mep; ieq = after r.ieq -ℤ before r.ieq }

-- how far a load moved from one value of its energies to a later one
abbrev pub withdrawal_moved_in : (Metered → ℤ) → (Metered → ℤ) → LoadSaid → Withdrawal
withdrawal_moved_in before after r = record { weq = after r.weq -ℤ before r.weq; wfq = after r.wfq -ℤ before r.wfq }

-- what an adjustment is worked from: for every number, how far what the key's row says moved, at the interval's prices and
-- its uplift rate
unfoldable pub moves_in : (Metered → ℤ) → (Metered → ℤ) → ℕ → IntervalSaid → List (Option FacilitySaid) → List (Option LoadSaid) → Moves
moves_in before after operator i fs ls = record {
  usep = i.usep;
  rate = i.rate;
  uplift = unwrap_or i.uplift (pos 0);
  facility = λ n. option_map (injection_moved_in before after) (lookup facility_named fs (numbered_key i.key.day i.key.interval n));
  load = λ a. option_map (withdrawal_moved_in before after) (lookup load_named ls (numbered_key i.key.day i.key.interval a));
  operator = operator;
}

-- at the same prices and rates, the adjustments by the first and by the second correction come to that from the base
-- values to the last
abbrev pub TwoAreOne : ℕ → IntervalSaid → List (Option FacilitySaid) → List (Option LoadSaid) → Type 0
TwoAreOne operator i fs ls =
    (a : ℕ) → nmea_of (moves_in base_value first_value operator i fs ls) a +ℤ nmea_of (moves_in first_value second_value operator i fs ls) a
    ≡ nmea_of (moves_in base_value second_value operator i fs ls) a
