-- What a call hands in: whether its numbers lie in their ranges, and the row that they make.
-- A row is made only of numbers in their ranges. Where a range has no negative number, unsigned_abs is the number itself.
use Rattle.std.specs.Prelude.{Bool, ◌&&◌, ℤ, None, unsigned_abs}
use Rattle.units.specs.Ranges.{inside, account_range, contract_range, day_range, days_range, facility_range, fraction_range, injection_range, interval_range, minute_range, price_range, quantity_range, rate_range, tranche_range}
use Rattle.calls.specs.declared.ContractCall.{ContractCall}
use Rattle.calls.specs.declared.FacilityCall.{FacilityCall}
use Rattle.calls.specs.declared.IntervalCall.{IntervalCall}
use Rattle.calls.specs.declared.LoadCall.{LoadCall}
use Rattle.calls.specs.declared.VestingCall.{VestingCall}
use Rattle.register.specs.Keys.{Numbers, interval_key, numbered_key, tranche_key}
use Rattle.rows.specs.Meaning.{IntervalSaid, FacilitySaid, LoadSaid, ContractSaid, VestingSaid}
use Rattle.rows.specs.declared.metered.Metered.{Metered}
use Rattle.rows.specs.declared.phase.Phase.TheVariants.{Reading}

-- the key of a half hour
abbrev pub half_hour_key : ℤ → ℤ → Numbers
half_hour_key d t = interval_key (unsigned_abs d) (unsigned_abs t)

-- whether there is such a half hour
abbrev pub is_half_hour : ℤ → ℤ → Bool
is_half_hour d t = inside day_range d && inside interval_range t

-- whether there is such a stamp
abbrev pub is_stamp : ℤ → ℤ → Bool
is_stamp d m = inside days_range d && inside minute_range m

-- a quantity that was not corrected
abbrev pub uncorrected : ℤ → Metered
uncorrected q = record { base = q; first = None; second = None }

-- an interval's opening in its ranges, and the row that it makes
abbrev pub is_interval : IntervalCall → Bool
is_interval c = is_half_hour c.day c.interval && (inside price_range c.usep && inside rate_range c.rate)

abbrev pub interval_given : IntervalCall → IntervalSaid
interval_given c = record { key = half_hour_key c.day c.interval; usep = c.usep; rate = c.rate; phase = Reading; days = 0; minute = 0; uplift = None }

-- a facility's reading in its ranges, and the row that it makes
abbrev pub is_facility : FacilityCall → Bool
is_facility c =
    is_half_hour c.day c.interval
    && (inside facility_range c.facility && inside account_range c.account && inside price_range c.mep && inside injection_range c.ieq)
    && is_stamp c.days c.minute

abbrev pub facility_given : FacilityCall → FacilitySaid
facility_given c = record { key = numbered_key (unsigned_abs c.day) (unsigned_abs c.interval) (unsigned_abs c.facility); account = unsigned_abs c.account; mep = c.mep; ieq = uncorrected c.ieq }

-- a load's reading in its ranges, and the row that it makes
abbrev pub is_load : LoadCall → Bool
is_load c =
    is_half_hour c.day c.interval
    && (inside account_range c.account && inside quantity_range c.weq && inside quantity_range c.wfq)
    && is_stamp c.days c.minute

abbrev pub load_given : LoadCall → LoadSaid
load_given c = record { key = numbered_key (unsigned_abs c.day) (unsigned_abs c.interval) (unsigned_abs c.account); weq = uncorrected c.weq; wfq = uncorrected c.wfq }

-- a bilateral contract in its ranges, and the row that it makes
abbrev pub is_contract : ContractCall → Bool
is_contract c =
    is_half_hour c.day c.interval
    && (inside contract_range c.contract && inside account_range c.seller && inside account_range c.buyer && inside quantity_range c.baq && inside fraction_range c.bwf && inside fraction_range c.bif)

abbrev pub contract_given : ContractCall → ContractSaid
contract_given c = record {
  key = numbered_key (unsigned_abs c.day) (unsigned_abs c.interval) (unsigned_abs c.contract);
  terms = record { seller = unsigned_abs c.seller; buyer = unsigned_abs c.buyer; baq = c.baq; bwf = unsigned_abs c.bwf; bif = unsigned_abs c.bif };
}

-- a vesting row in its ranges, and the row that it makes
abbrev pub is_vesting : VestingCall → Bool
is_vesting c =
    is_half_hour c.day c.interval
    && (inside account_range c.account && inside tranche_range c.tranche && inside price_range c.price && inside quantity_range c.quantity)

abbrev pub vesting_given : VestingCall → VestingSaid
vesting_given c = record {
  key = tranche_key (unsigned_abs c.day) (unsigned_abs c.interval) (unsigned_abs c.account) (unsigned_abs c.tranche);
  terms = record { price = c.price; quantity = c.quantity };
}
