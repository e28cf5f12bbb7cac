use Rattle.std.proofs.Common.{◌≡◌, ℕ}
use Rattle.units.specs.Ranges.{Account}
use Rattle.formulas.specs.Figures.{from_contract}
use Rattle.figures.specs.Meaning.{amount_at, basis_of}
use Rattle.formulas.specs.Sums.{sum}
use Rattle.figures.proofs.injections.Injections.contract_sums.Given as goal

abbrev pub invariant-loop-contract : goal.invariant-loop-contract
invariant-loop-contract l = (a : ℕ) → Account a → amount_at l.amounts a ≡ sum l.contract-index (λ m. from_contract (basis_of l.self.inputs.now) a ((basis_of l.self.inputs.now).contract m))
