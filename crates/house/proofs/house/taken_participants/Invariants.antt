use Rattle.std.proofs.Common.{◌≡◌, true, map, length, take, nat_abs}
use Rattle.units.specs.Ranges.{accounts}
use Rattle.house.specs.State.{all_participants}
use Rattle.house.proofs.house.taken_participants.Given as goal

abbrev pub invariant-loop-k : goal.invariant-loop-k
invariant-loop-k l =
    (length l.participants ≡ accounts)
    × (all_participants (take l.k l.given) ≡ true)
    × (take l.k l.participants ≡ map nat_abs (take l.k l.given))
