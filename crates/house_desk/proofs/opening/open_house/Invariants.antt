use Rattle.lines.specs.Lines.{lines_of}
use Rattle.house_desk.proofs.Left.{Left}
use Rattle.house_desk.proofs.opening.open_house.Given as goal

abbrev pub invariant-loop-line : goal.invariant-loop-line
invariant-loop-line l = Left (lines_of l.fn.lines.rest.now) (lines_of l.lines.rest.now)
