use Rattle.lines.proofs.Cuts.{first_cut}
use Rattle.lines.proofs.line.first_line.Goals as goal

pub returns : goal.returns
returns c = first_cut _ _ c.place_of.ensures.before c.place_of.ensures.found
