-- What the figures of one half hour are worked from: prices, readings, contracts and vesting rows, by number.
use Rattle.std.specs.Prelude.{ℕ, cond, ℤ, pos, Some, None, Option, ◌==◌}
use Rattle.formulas.specs.Sums.{sum}

-- how many facilities a pool has; they are numbered from 1
abbrev pub facilities : ℕ
facilities = 128

-- how many bilateral contracts a half hour may have; they are numbered from 1
abbrev pub contracts : ℕ
contracts = 64

-- what was read of a facility: whose it is, its price (MEP) and its injected energy (IEQ)
pub record Injection : Type 0 where
  pub account : ℕ
  pub mep : ℤ
  pub ieq : ℤ

-- what was read of a load: its withdrawn energy (WEQ), and the energy on which it pays fees (WFQ)
pub record Withdrawal : Type 0 where
  pub weq : ℤ
  pub wfq : ℤ

-- a bilateral contract: an amount (BAQ), and two fractions in hundredths of a percent, of the buyer's withdrawn (BWF)
-- and of the seller's injected energy (BIF)
pub record Bilateral : Type 0 where
  pub seller : ℕ
  pub buyer : ℕ
  pub baq : ℤ
  pub bwf : ℕ
  pub bif : ℕ

-- one tranche of a vesting contract
pub record Vested : Type 0 where
  pub price : ℤ
  pub quantity : ℤ

-- what the figures of one half hour are worked from
pub record Basis : Type 0 where
  -- the pool price
  pub usep : ℤ
  -- the fee rate, of both administrative rates together
  pub rate : ℤ
  pub facility : ℕ → Option Injection
  pub load : ℕ → Option Withdrawal
  pub contract : ℕ → Option Bilateral
  -- by account and tranche: 0 (base), 1 or 2
  pub vesting : ℕ → ℕ → Option Vested
  -- the account that takes the other side of every vesting contract
  pub counterparty : ℕ
  -- the account that the fees go to
  pub operator : ℕ
  -- the total of adjustments that no final has settled yet
  pub pending : ℤ

-- f of a facility that is account a's, else 0
abbrev pub of_account : ℕ → (Injection → ℤ) → Option Injection → ℤ
of_account a f None = pos 0
of_account a f (Some r) = cond (r.account == a) (f r) (pos 0)

-- f summed over the facilities of account a
unfoldable pub over : (ℕ → Option Injection) → ℕ → (Injection → ℤ) → ℤ
over read a f = sum facilities (λ n. of_account a f (read n))

-- f of a load, 0 where there is none
abbrev pub of_load : (Withdrawal → ℤ) → Option Withdrawal → ℤ
of_load f None = pos 0
of_load f (Some l) = f l
