use Rattle.std.proofs.Common.{◌≡◌, ℕ, suc, ◌<◌, length, get_or}
use Rattle.units.specs.Ranges.{accounts}
use Rattle.formulas.specs.Figures.{heua_of, weq_of, borne, total_load}
use Rattle.figures.specs.Meaning.{basis_of}
use Rattle.figures.specs.Settled.{LineIs}
use Rattle.formulas.specs.Sums.{sum}
use Rattle.figures.specs.declared.line.Line.{Line}
use Rattle.figures.proofs.sums.Sums.lines.Given as goal

abbrev pub invariant-loop-k : goal.invariant-loop-k
invariant-loop-k l =
    (length l.lines ≡ accounts)
    × (l.upto ≡ sum l.k (weq_of (basis_of l.self.injections.inputs.now)))
    × (l.before ≡ borne (heua_of (basis_of l.self.injections.inputs.now)) (total_load (basis_of l.self.injections.inputs.now)) (sum l.k (weq_of (basis_of l.self.injections.inputs.now))))
    × ((k : ℕ) → k < l.k → (d : Line) → LineIs (basis_of l.self.injections.inputs.now) (suc k) (get_or l.lines k d))
