-- What the figures of an open interval are worked from, as the registers say it before any correction.
use Rattle.std.specs.Prelude.{List, Option}
use Rattle.std.specs.Option.{option_map}
use Rattle.formulas.specs.Basis.{Basis, Injection, Withdrawal, Bilateral, Vested}
use Rattle.register.specs.Keys.{numbered_key, tranche_key}
use Rattle.register.specs.Rows.{lookup}
use Rattle.gather.specs.declared.handed.Rows.{Rows}
use Rattle.rows.specs.Meaning.{IntervalSaid, FacilitySaid, LoadSaid, ContractSaid, VestingSaid, contract_named, contract_rows, facility_named, facility_rows, load_named, load_rows, vesting_named, vesting_rows}
use Rattle.rows.specs.Values.{base_value}
use Rattle.house.specs.State.{HouseState}

-- a facility as it was first read
abbrev pub injection_in : FacilitySaid → Injection
injection_in r = record { account = r.account; mep = r.mep; ieq = base_value r.ieq }

-- a load as it was first read
abbrev pub withdrawal_in : LoadSaid → Withdrawal
withdrawal_in r = record { weq = base_value r.weq; wfq = base_value r.wfq }

-- a contract's terms
abbrev pub bilateral_in : ContractSaid → Bilateral
bilateral_in r = r.terms

-- a tranche's terms
abbrev pub vested_in : VestingSaid → Vested
vested_in r = r.terms

-- for every number, what the key's row says, with the house's standing accounts and what is pending
unfoldable pub basis_in : HouseState → IntervalSaid → List (Option FacilitySaid) → List (Option LoadSaid) → List (Option ContractSaid) → List (Option VestingSaid) → Basis
basis_in h i fs ls cs vs = record {
  usep = i.usep;
  rate = i.rate;
  facility = λ n. option_map injection_in (lookup facility_named fs (numbered_key i.key.day i.key.interval n));
  load = λ a. option_map withdrawal_in (lookup load_named ls (numbered_key i.key.day i.key.interval a));
  contract = λ n. option_map bilateral_in (lookup contract_named cs (numbered_key i.key.day i.key.interval n));
  vesting = λ a n. option_map vested_in (lookup vesting_named vs (tranche_key i.key.day i.key.interval a n));
  counterparty = h.counterparty;
  operator = h.operator;
  pending = h.pending;
}

-- the same of the registers that are handed over
abbrev pub basis_by : HouseState → Rows → IntervalSaid → Basis
basis_by h rows i = basis_in h i (facility_rows rows.readings.facilities.now) (load_rows rows.readings.loads.now) (contract_rows rows.contracts.now) (vesting_rows rows.vestings.now)
