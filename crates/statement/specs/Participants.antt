-- What a participant is credited over the lines of a statement (NPSC).
use Rattle.std.specs.Prelude.{ℕ, ◌-◌, cond, not, List, [], ◌∷◌, map, length, take, ℤ, pos, ◌+ℤ◌, neg_ℤ, is_some, Some, None, Option, ◌==◌, nat_lt, slice_index, unsigned_abs}
use Rattle.units.specs.Checks.{Check}
use Rattle.units.specs.Ranges.{accounts, inside, account_range}
use Rattle.units.specs.declared.range.Range.{Range}
use Rattle.figures.specs.declared.line.Line.{Line}
use Rattle.house.specs.Open.{check}
use Rattle.house.specs.State.{HouseState}

-- a running sum
abbrev pub sum_range : Range
sum_range = record { low = neg_ℤ (pos 1000000000000000000); high = pos 1000000000000000000 }

-- amounts added in their order to a sum; nothing where a running sum passes its range
abbrev pub added : ℤ → List ℤ → Option ℤ
added s [] = Some s
added s (z ∷ zs) = cond (inside sum_range (s +ℤ z)) (added (s +ℤ z) zs) None

-- what a line credits to a participant: its NASC where the account is the participant's
abbrev pub credited : List ℕ → ℕ → Line → ℤ
credited participants p l = cond (slice_index participants (l.account - 1) == p) l.nasc.0 (pos 0)

-- what the first 96 lines credit to a participant, added in their order
abbrev pub credits : HouseState → ℕ → List Line → Option ℤ
credits h p lines = added (pos 0) (map (credited h.participants p) (take accounts lines))

-- the same of a participant as it was handed in
abbrev pub npsc_of : HouseState → ℤ → List Line → Option ℤ
npsc_of h p lines = credits h (unsigned_abs p) lines

-- the checks of a participant's sum
abbrev pub npsc_checks : HouseState → ℤ → List Line → List Check
npsc_checks h p lines =
    check 1 (not (inside account_range p))
    ∷ check 11 (nat_lt (length lines) accounts)
    ∷ check 15 (not (is_some (npsc_of h p lines)))
    ∷ []
