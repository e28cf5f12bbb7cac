use Rattle.std.proofs.Common.{◌≡◌}
use Rattle.formulas.specs.Figures.{weq_of}
use Rattle.figures.specs.Meaning.{basis_of}
use Rattle.formulas.specs.Sums.{sum}
use Rattle.figures.proofs.injections.Injections.total_withdrawn.Given as goal

abbrev pub invariant-loop-load : goal.invariant-loop-load
invariant-loop-load l = l.all ≡ sum l.load-index (weq_of (basis_of l.self.inputs.now))
