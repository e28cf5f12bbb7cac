use Rattle.std.proofs.Common.{◌≡◌, map, take, pos, Some}
use Rattle.house.specs.State.{house_says}
use Rattle.statement.specs.Participants.{added, credited}
use Rattle.statement.proofs.participants.sum_credited.Given as goal

abbrev pub invariant-loop-line : goal.invariant-loop-line
invariant-loop-line l = added (pos 0) (map (credited (house_says l.house).participants l.participant) (take l.line-index l.line-items)) ≡ Some l.sum.0
