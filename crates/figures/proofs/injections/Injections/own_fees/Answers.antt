use Rattle.std.proofs.Common.{◌≡◌, refl, rules}
use Rattle.formulas.specs.Figures.{own_fee_of}
use Rattle.figures.specs.Meaning.{basis_of}
use Rattle.figures.proofs.Placed.{amounts_made}
use Rattle.figures.proofs.injections.Injections.own_fees.Goals as goal

pub returns : goal.returns
returns c = amounts_made _ (λ p. p.0.now ≡ c.args.self.now) (λ a z. z ≡ own_fee_of (basis_of c.args.self.now.inputs.now) a) (λ p k y q h e. (search (rules, e), search (rules, e))) _ _ refl c.from_fn.ensures.items
