-- What corrected readings move.
use Rattle.std.specs.Prelude.{ℕ, cond, ℤ, pos, ◌+ℤ◌, ◌-ℤ◌, ◌*ℤ◌, Option, ◌==◌}
use Rattle.formulas.specs.Basis.{Injection, Withdrawal, over, of_load}

-- what an adjustment of one half hour is worked from: its prices, its uplift rate, and how far each reading moved,
-- the value after a correction minus the value before it
pub record Moves : Type 0 where
  pub usep : ℤ
  pub rate : ℤ
  pub uplift : ℤ
  pub facility : ℕ → Option Injection
  pub load : ℕ → Option Withdrawal
  pub operator : ℕ

-- the fee rate of an account: the operator pays none
abbrev pub rate_of : Moves → ℕ → ℤ
rate_of m a = cond (a == m.operator) (pos 0) m.rate

-- the net metering error adjustment of an account
unfoldable pub nmea_of : Moves → ℕ → ℤ
nmea_of m a =
    over m.facility a (λ r. r.mep *ℤ r.ieq) -ℤ rate_of m a *ℤ over m.facility a (λ r. r.ieq)
    -ℤ (m.usep +ℤ m.uplift) *ℤ of_load (λ l. l.weq) (m.load a) -ℤ rate_of m a *ℤ of_load (λ l. l.wfq) (m.load a)
