-- What adjustments are worked from, part by part.
use Rattle.std.proofs.Common.{◌≡◌, ℕ, ℤ, Option}
use Rattle.formulas.specs.Adjustment.{Moves}
use Rattle.formulas.specs.Basis.{Injection, Withdrawal}

-- moves with the same parts are the same
pub same_moves : (usep rate u v : ℤ) (o : ℕ) (f g : ℕ → Option Injection) (l m : ℕ → Option Withdrawal) → u ≡ v → f ≡ g → l ≡ m
    → ◌≡◌ {A = Moves}
    (record { usep = usep; rate = rate; uplift = u; facility = f; load = l; operator = o })
    (record { usep = usep; rate = rate; uplift = v; facility = g; load = m; operator = o })
same_moves usep rate u v o f g l m p q r = cc
