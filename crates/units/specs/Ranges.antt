-- The range of every number that the charter names.
use Rattle.std.specs.Prelude.{ℕ, ◌≤◌, Bool, ◌&&◌, ℤ, pos, neg_ℤ, ◌≤ℤ◌, int_le}
use Rattle.units.specs.declared.range.Range.{Range}

-- whether z lies in the range, both ends included
abbrev pub inside : Range → ℤ → Bool
inside r z = int_le r.low z && int_le z r.high

-- z lies from low to high, both ends included
abbrev pub Within : ℤ → ℤ → ℤ → Type 0
Within low high z = (low ≤ℤ z) × (z ≤ℤ high)

-- z lies at most that far from zero
abbrev pub Around : ℕ → ℤ → Type 0
Around far z = Within (neg_ℤ (pos far)) (pos far) z

-- how many accounts a pool has; accounts and participants are numbered from 1
abbrev pub accounts : ℕ
accounts = 96

-- a is the number of an account
abbrev pub Account : ℕ → Type 0
Account a = (1 ≤ a) × (a ≤ accounts)

-- a house
abbrev pub house_range : Range
house_range = record { low = pos 0; high = pos 65535 }

-- a trading day
abbrev pub day_range : Range
day_range = record { low = pos 1; high = pos 40000 }

-- an interval of a day
abbrev pub interval_range : Range
interval_range = record { low = pos 1; high = pos 48 }

-- an account or a participant
abbrev pub account_range : Range
account_range = record { low = pos 1; high = pos accounts }

-- a facility
abbrev pub facility_range : Range
facility_range = record { low = pos 1; high = pos 128 }

-- a bilateral contract of a half hour
abbrev pub contract_range : Range
contract_range = record { low = pos 1; high = pos 64 }

-- a vesting tranche
abbrev pub tranche_range : Range
tranche_range = record { low = pos 0; high = pos 2 }

-- the pool price, a facility's price and a vesting price
abbrev pub price_range : Range
price_range = record { low = neg_ℤ (pos 1000000); high = pos 1000000 }

-- the fee rate
abbrev pub rate_range : Range
rate_range = record { low = pos 0; high = pos 100000 }

-- injected energy
abbrev pub injection_range : Range
injection_range = record { low = neg_ℤ (pos 10000000); high = pos 10000000 }

-- every other quantity of energy
abbrev pub quantity_range : Range
quantity_range = record { low = pos 0; high = pos 10000000 }

-- fractions, in hundredths of a percent
abbrev pub fraction_range : Range
fraction_range = record { low = pos 0; high = pos 10000 }

-- the business days of a stamp
abbrev pub days_range : Range
days_range = record { low = pos 0; high = pos 1000 }

-- the minute of a stamp
abbrev pub minute_range : Range
minute_range = record { low = pos 0; high = pos 1439 }

-- the uplift rate of a statement
abbrev pub uplift_range : Range
uplift_range = record { low = neg_ℤ (pos 100000000); high = pos 100000000 }

-- a balance and the pending sum
abbrev pub balance_range : Range
balance_range = record { low = neg_ℤ (pos 100000000000000000); high = pos 100000000000000000 }
