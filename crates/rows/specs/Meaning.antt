-- What each kind of row says: the numbers of its key, and its values.
use Rattle.std.specs.Prelude.{ℕ, List, map, ℤ, Option}
use Rattle.std.specs.Option.{option_map}
use Rattle.formulas.specs.Basis.{Bilateral, Vested}
use Rattle.register.specs.Keys.{Numbers, interval_key, numbered_key, tranche_key}
use Rattle.rows.specs.declared.contract.ContractRow.{ContractRow}
use Rattle.rows.specs.declared.facility.FacilityReading.{FacilityReading}
use Rattle.rows.specs.declared.interval.Interval.{Interval}
use Rattle.rows.specs.declared.load.LoadReading.{LoadReading}
use Rattle.rows.specs.declared.metered.Metered.{Metered}
use Rattle.rows.specs.declared.phase.Phase.{Phase}
use Rattle.rows.specs.declared.vesting.VestingRow.{VestingRow}

-- an interval: its prices, its phase, its last accepted stamp by days and minute, and its uplift rate once final
pub record IntervalSaid : Type 0 where
  pub key : Numbers
  pub usep : ℤ
  pub rate : ℤ
  pub phase : Phase
  pub days : ℕ
  pub minute : ℕ
  pub uplift : Option ℤ

-- a facility: whose it is, its price (MEP), and its injected energy (IEQ) with its corrections
pub record FacilitySaid : Type 0 where
  pub key : Numbers
  pub account : ℕ
  pub mep : ℤ
  pub ieq : Metered

-- a load: its withdrawn energy (WEQ), and the energy on which it pays fees (WFQ), with their corrections
pub record LoadSaid : Type 0 where
  pub key : Numbers
  pub weq : Metered
  pub wfq : Metered

-- a bilateral contract
pub record ContractSaid : Type 0 where
  pub key : Numbers
  pub terms : Bilateral

-- one tranche of a vesting contract
pub record VestingSaid : Type 0 where
  pub key : Numbers
  pub terms : Vested

-- what an interval's row says
abbrev pub interval_says : Interval → IntervalSaid
interval_says r = record {
  key = interval_key r.half_hour.day r.half_hour.interval;
  usep = r.usep.0;
  rate = r.rate.0;
  phase = r.phase;
  days = r.last.days;
  minute = r.last.minute;
  uplift = r.uplift;
}

-- what a facility's row says
abbrev pub facility_says : FacilityReading → FacilitySaid
facility_says r = record {
  key = numbered_key r.key.half_hour.day r.key.half_hour.interval r.key.facility;
  account = r.account;
  mep = r.mep.0;
  ieq = r.ieq;
}

-- what a load's row says
abbrev pub load_says : LoadReading → LoadSaid
load_says r = record {
  key = numbered_key r.key.half_hour.day r.key.half_hour.interval r.key.account;
  weq = r.weq;
  wfq = r.wfq;
}

-- what a contract's row says
abbrev pub contract_says : ContractRow → ContractSaid
contract_says r = record {
  key = numbered_key r.key.half_hour.day r.key.half_hour.interval r.key.contract;
  terms = record { seller = r.seller; buyer = r.buyer; baq = r.baq.0; bwf = r.bwf; bif = r.bif };
}

-- what a vesting row says
abbrev pub vesting_says : VestingRow → VestingSaid
vesting_says r = record {
  key = tranche_key r.key.half_hour.day r.key.half_hour.interval r.key.account r.key.tranche;
  terms = record { price = r.price.0; quantity = r.quantity.0 };
}

-- what a register of intervals says
abbrev pub interval_rows : List (Option Interval) → List (Option IntervalSaid)
interval_rows rows = map (option_map interval_says) rows

-- what a register of facility readings says
abbrev pub facility_rows : List (Option FacilityReading) → List (Option FacilitySaid)
facility_rows rows = map (option_map facility_says) rows

-- what a register of load readings says
abbrev pub load_rows : List (Option LoadReading) → List (Option LoadSaid)
load_rows rows = map (option_map load_says) rows

-- what a register of bilateral contracts says
abbrev pub contract_rows : List (Option ContractRow) → List (Option ContractSaid)
contract_rows rows = map (option_map contract_says) rows

-- what a register of vesting rows says
abbrev pub vesting_rows : List (Option VestingRow) → List (Option VestingSaid)
vesting_rows rows = map (option_map vesting_says) rows

-- the key of each kind of row
abbrev pub interval_named : IntervalSaid → Numbers
interval_named r = r.key

abbrev pub facility_named : FacilitySaid → Numbers
facility_named r = r.key

abbrev pub load_named : LoadSaid → Numbers
load_named r = r.key

abbrev pub contract_named : ContractSaid → Numbers
contract_named r = r.key

abbrev pub vesting_named : VestingSaid → Numbers
vesting_named r = r.key
