use Rattle.formulas.proofs.Joining.{joined}
use Rattle.formulas.proofs.corrections_join.Goals as goal

pub returns : goal.returns
returns c = joined
