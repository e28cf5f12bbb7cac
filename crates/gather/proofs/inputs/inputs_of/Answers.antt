use Rattle.std.proofs.Common.{◌≡◌, ℕ, ℤ, Option}
use mathlib.Core.Path.{fun_ext}
use Rattle.formulas.specs.Basis.{Basis, Injection, Withdrawal, Bilateral, Vested}
use Rattle.gather.specs.Gathered.{basis_at}
use Rattle.gather.proofs.inputs.inputs_of.Goals as goal

same_basis : (usep rate pending : ℤ) (k o : ℕ) (f g : ℕ → Option Injection) (l m : ℕ → Option Withdrawal) (b c : ℕ → Option Bilateral) (v w : ℕ → ℕ → Option Vested)
    → f ≡ g → l ≡ m → b ≡ c → v ≡ w
    → ◌≡◌ {A = Basis}
    (record { usep = usep; rate = rate; facility = f; load = l; contract = b; vesting = v; counterparty = k; operator = o; pending = pending })
    (record { usep = usep; rate = rate; facility = g; load = m; contract = c; vesting = w; counterparty = k; operator = o; pending = pending })
same_basis usep rate pending k o f g l m b c v w p q r s = cc

pub returns : goal.returns
unfolding basis_at
returns c =
    let terms = c.args.terms.now in
    same_basis terms.usep.0 terms.rate.0 terms.pending.0 terms.counterparty terms.operator _ _ _ _ _ _ _ _
    (fun_ext c.facilities_of.ensures) (fun_ext c.loads_of.ensures) (fun_ext c.contracts_of.ensures) (fun_ext (λ a. fun_ext (c.vestings_of.ensures a)))
