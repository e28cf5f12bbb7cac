use Rattle.std.proofs.Common.{◌≡◌}
use Rattle.formulas.specs.Figures.{gesc_of}
use Rattle.figures.specs.Meaning.{basis_of}
use Rattle.formulas.specs.Sums.{sum}
use Rattle.figures.proofs.injections.Injections.total_earned.Given as goal

abbrev pub invariant-loop-account : goal.invariant-loop-account
invariant-loop-account l = l.all ≡ sum l.account-index (gesc_of (basis_of l.self.inputs.now))
