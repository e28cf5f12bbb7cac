-- Interval openings, bilateral contracts and vesting rows: the checks of each in the order of their numbers, and what an
-- accepted one changes.
use Rattle.std.specs.Prelude.{ℕ, Bool, false, cond, not, List, [], ◌∷◌, is_some, Some, None, Option, ◌==◌, nat_lt, unsigned_abs}
use Rattle.units.specs.Checks.{Check}
use Rattle.calls.specs.declared.ContractCall.{ContractCall}
use Rattle.calls.specs.declared.IntervalCall.{IntervalCall}
use Rattle.calls.specs.declared.VestingCall.{VestingCall}
use Rattle.register.specs.Keys.{Numbers}
use Rattle.register.specs.Rows.{place}
use Rattle.rows.specs.Meaning.{IntervalSaid, ContractSaid, VestingSaid, contract_named, interval_named, vesting_named}
use Rattle.house.specs.Calls.{contract_given, half_hour_key, is_contract, is_interval, is_vesting, vesting_given}
use Rattle.house.specs.Open.{check, half_hour_of, if_open, in_phase, open_at}
use Rattle.house.specs.State.{HouseState}

-- whether a half hour comes after another: by day, then by interval
abbrev pub comes_after : Numbers → Numbers → Bool
comes_after k l = cond (k.day == l.day) (nat_lt l.interval k.interval) (nat_lt l.day k.day)

-- whether a half hour does not come after the latest opened
abbrev pub not_after : Numbers → Option Numbers → Bool
not_after k None = false
not_after k (Some l) = not (comes_after k l)

-- the checks of an interval's opening
abbrev pub interval_checks : IntervalCall → HouseState → List (Option IntervalSaid) → List Check
interval_checks c h is =
    check 1 (not (is_interval c))
    ∷ check 3 (not_after (half_hour_key c.day c.interval) h.latest)
    ∷ check 10 (not (is_some (place interval_named is (half_hour_key c.day c.interval))))
    ∷ []

-- the house after an interval's opening
abbrev pub with_latest : IntervalCall → HouseState → HouseState
with_latest c h = record { number = h.number; participants = h.participants; counterparty = h.counterparty; operator = h.operator; latest = Some (half_hour_key c.day c.interval); pending = h.pending }

-- 7 where the interval is not in its reading phase
abbrev pub reading_phase : IntervalSaid → List Check
reading_phase i = check 7 (not (in_phase 1 i)) ∷ []

-- the checks of a row that one account agrees on with another
abbrev pub agreed_checks : {S : Type 0} → (S → Numbers) → ℕ → ℕ → S → List (Option IntervalSaid) → List (Option S) → List Check
agreed_checks named one other row is rows =
    check 2 (one == other)
    ∷ if_open (open_at is (half_hour_of (named row))) (λ i.
    check 7 (not (in_phase 1 i))
    ∷ check 10 (not (is_some (place named rows (named row))))
    ∷ [])

-- the checks of a bilateral contract
abbrev pub contract_checks : ContractCall → List (Option IntervalSaid) → List (Option ContractSaid) → List Check
contract_checks c is cs = check 1 (not (is_contract c)) ∷ agreed_checks contract_named (unsigned_abs c.seller) (unsigned_abs c.buyer) (contract_given c) is cs

-- the checks of a vesting row, in a house with that counterparty account
abbrev pub vesting_checks : VestingCall → ℕ → List (Option IntervalSaid) → List (Option VestingSaid) → List Check
vesting_checks c k is vs = check 1 (not (is_vesting c)) ∷ agreed_checks vesting_named (unsigned_abs c.account) k (vesting_given c) is vs
