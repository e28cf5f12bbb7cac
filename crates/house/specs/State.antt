-- What a house holds, and its opening.
use Rattle.std.specs.Prelude.{◌≡◌, ℕ, Bool, true, not, ◌&&◌, List, [], ◌∷◌, map, ℤ, pos, None, Option, ◌==◌, unsigned_abs}
use Rattle.std.specs.Option.{option_map}
use Rattle.units.specs.Checks.{Check}
use Rattle.units.specs.Ranges.{inside, account_range, house_range}
use Rattle.units.specs.declared.half_hour.HalfHour.{HalfHour}
use Rattle.calls.specs.declared.HouseCall.{HouseCall}
use Rattle.register.specs.Keys.{Numbers, interval_key}
use Rattle.house.specs.Open.{check}
use Rattle.house.specs.declared.opening.Opening.{Opening}
use Rattle.house.specs.declared.state.House.{House}

-- what a house holds: its number, each account's participant by rising account, the counterparty account, the operator
-- account, the key of the latest opened interval, and the total of adjustments that no final has settled yet
pub record HouseState : Type 0 where
  pub number : ℕ
  pub participants : List ℕ
  pub counterparty : ℕ
  pub operator : ℕ
  pub latest : Option Numbers
  pub pending : ℤ

-- the key of a half hour
abbrev pub key_of : HalfHour → Numbers
key_of h = interval_key h.day h.interval

-- what a house holds, of the house itself
abbrev pub house_says : House → HouseState
house_says h = record {
  number = h.opening.number;
  participants = h.opening.participants;
  counterparty = h.opening.counterparty;
  operator = h.opening.operator;
  latest = option_map key_of h.latest;
  pending = h.pending.0;
}

-- a newly opened house
abbrev pub newly_opened : Opening → HouseState
newly_opened o = record { number = o.number; participants = o.participants; counterparty = o.counterparty; operator = o.operator; latest = None; pending = pos 0 }

-- whether each number is one of a participant
abbrev pub all_participants : List ℤ → Bool
all_participants [] = true
all_participants (z ∷ zs) = inside account_range z && all_participants zs

-- a house's opening in its ranges
abbrev pub is_opening : HouseCall → Bool
is_opening c = inside house_range c.number && inside account_range c.counterparty && inside account_range c.operator && all_participants c.participants

-- the opening as it was handed in
pub record OpeningIs (c : HouseCall) (o : Opening) : Type 0 where
  pub number : o.number ≡ unsigned_abs c.number
  pub participants : o.participants ≡ map unsigned_abs c.participants
  pub counterparty : o.counterparty ≡ unsigned_abs c.counterparty
  pub operator : o.operator ≡ unsigned_abs c.operator

-- the checks of a house's opening: the counterparty and the operator are two accounts
abbrev pub opening_checks : HouseCall → List Check
opening_checks c = check 1 (not (is_opening c)) ∷ check 2 (unsigned_abs c.counterparty == unsigned_abs c.operator) ∷ []

-- the same house with that much pending
abbrev pub with_pending : ℤ → HouseState → HouseState
with_pending z h = record { number = h.number; participants = h.participants; counterparty = h.counterparty; operator = h.operator; latest = h.latest; pending = z }
