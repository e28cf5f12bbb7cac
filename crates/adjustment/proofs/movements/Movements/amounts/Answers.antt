use Rattle.std.proofs.Common.{◌≡◌, refl, rules}
use Rattle.units.specs.Ranges.{Around}
use Rattle.formulas.specs.Adjustment.{nmea_of}
use Rattle.records.specs.Moved.{moves_of}
use Rattle.figures.proofs.Placed.{amounts_made}
use Rattle.adjustment.proofs.movements.Movements.amounts.Goals as goal

pub invariant_of-result : goal.invariant_of-result
invariant_of-result c =
    record { modest = amounts_made _ (λ p. p.0.now ≡ c.args.self.now) (λ a z. Around 10000000000000000 z) (λ p k y q h e. (search (rules, e), search (rules, e))) _ _ refl c.from_fn.ensures.items }

pub returns : goal.returns
returns c =
    amounts_made _ (λ p. p.0.now ≡ c.args.self.now) (λ a z. z ≡ nmea_of (moves_of c.args.self.now.differences.now) a) (λ p k y q h e. (search (rules, e), search (rules, e))) _ _ refl c.from_fn.ensures.items
