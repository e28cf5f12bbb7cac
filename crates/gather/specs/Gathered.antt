-- What the rows of one half hour say to its figures: for every number, what the key's row holds.
use Rattle.std.specs.Prelude.{ℕ, ◌+◌, ◌*◌, List, pos, ◌-ℤ◌, None, Option, slice_index_or}
use Rattle.std.specs.Option.{option_map, unwrap_or}
use Rattle.formulas.specs.Adjustment.{Moves}
use Rattle.formulas.specs.Basis.{Basis, Injection, Withdrawal, Bilateral, Vested}
use Rattle.records.specs.declared.inputs.Terms.{Terms}
use Rattle.records.specs.declared.inputs.Tranches.{Tranches}
use Rattle.records.specs.declared.entries.Vesting.{Vesting}
use Rattle.register.specs.Keys.{Numbers, numbered_key, tranche_key}
use Rattle.register.specs.Rows.{lookup}
use Rattle.rows.specs.Values.{after_value, base_value, before_value}
use Rattle.rows.specs.declared.contract.ContractRow.{ContractRow}
use Rattle.rows.specs.declared.correction.Correction.{Correction}
use Rattle.rows.specs.declared.facility.FacilityReading.{FacilityReading}
use Rattle.rows.specs.declared.interval.Interval.{Interval}
use Rattle.rows.specs.declared.load.LoadReading.{LoadReading}
use Rattle.rows.specs.declared.vesting.VestingRow.{VestingRow}

-- the numbers of each kind of row's key
abbrev pub facility_key : FacilityReading → Numbers
facility_key r = numbered_key r.key.half_hour.day r.key.half_hour.interval r.key.facility

abbrev pub load_key : LoadReading → Numbers
load_key r = numbered_key r.key.half_hour.day r.key.half_hour.interval r.key.account

abbrev pub contract_key : ContractRow → Numbers
contract_key r = numbered_key r.key.half_hour.day r.key.half_hour.interval r.key.contract

abbrev pub vesting_key : VestingRow → Numbers
vesting_key r = tranche_key r.key.half_hour.day r.key.half_hour.interval r.key.account r.key.tranche

-- a facility as it was first read
abbrev pub base_injection : FacilityReading → Injection
base_injection r = record { account = r.account; mep = r.mep.0; ieq = base_value r.ieq }

-- a load as it was first read
abbrev pub base_withdrawal : LoadReading → Withdrawal
base_withdrawal r = record { weq = base_value r.weq; wfq = base_value r.wfq }

-- how far a facility moved by a correction
abbrev pub injection_by : Correction → FacilityReading → Injection
injection_by c r = record { account = r.account; mep = r.mep.0; ieq = after_value c r.ieq -ℤ before_value c r.ieq }

-- how far a load moved by a correction
abbrev pub withdrawal_by : Correction → LoadReading → Withdrawal
withdrawal_by c r = record { weq = after_value c r.weq -ℤ before_value c r.weq; wfq = after_value c r.wfq -ℤ before_value c r.wfq }

-- the contract of a row
abbrev pub contract_in : ContractRow → Bilateral
contract_in r = record { seller = r.seller; buyer = r.buyer; baq = r.baq.0; bwf = r.bwf; bif = r.bif }

-- the tranche of a row
abbrev pub vested_in : VestingRow → Vested
vested_in r = record { price = r.price.0; quantity = r.quantity.0 }

-- the three tranches of the account at place k, of a list in which each account has three
abbrev pub three_at : List (Option Vesting) → ℕ → Tranches
three_at flat k = record { base = slice_index_or flat (3 * k) None; first = slice_index_or flat (3 * k + 1) None; second = slice_index_or flat (3 * k + 2) None }

-- what the figures of a day and interval are worked from, as the registers' rows hold it before any correction
unfoldable pub basis_at : Terms → ℕ → ℕ → List (Option FacilityReading) → List (Option LoadReading) → List (Option ContractRow) → List (Option VestingRow) → Basis
basis_at terms d t fs ls cs vs = record {
  usep = terms.usep.0;
  rate = terms.rate.0;
  facility = λ n. option_map base_injection (lookup facility_key fs (numbered_key d t n));
  load = λ a. option_map base_withdrawal (lookup load_key ls (numbered_key d t a));
  contract = λ n. option_map contract_in (lookup contract_key cs (numbered_key d t n));
  vesting = λ a n. option_map vested_in (lookup vesting_key vs (tranche_key d t a n));
  counterparty = terms.counterparty;
  operator = terms.operator;
  pending = terms.pending.0;
}

-- what an adjustment of an interval is worked from, by what is seen to move in each reading
unfoldable pub moves_at : (FacilityReading → Injection) → (LoadReading → Withdrawal) → Interval → ℕ → List (Option FacilityReading) → List (Option LoadReading) → Moves
moves_at injection withdrawal interval operator fs ls = record {
  usep = interval.usep.0;
  rate = interval.rate.0;
  uplift = unwrap_or interval.uplift (pos 0);
  facility = λ n. option_map injection (lookup facility_key fs (numbered_key interval.half_hour.day interval.half_hour.interval n));
  load = λ a. option_map withdrawal (lookup load_key ls (numbered_key interval.half_hour.day interval.half_hour.interval a));
  operator = operator;
}
