use Rattle.std.proofs.Common.{vec_len}
use Rattle.house_desk.proofs.desk.Desk.close.Given as goal

abbrev pub decreases-loop-house : goal.decreases-loop-house
decreases-loop-house l = vec_len l.statements
