-- What holds of the figures of every half hour.
use Rattle.std.specs.Prelude.{◌≡◌, ℕ, ◌<◌, ◌≤◌, ◌⊎◌, pos, ◌+ℤ◌, ◌*ℤ◌, neg_ℤ, ◌<ℤ◌, IfSome, Some, None, Option}
use Rattle.units.specs.Ranges.{accounts}
pub use Rattle.units.specs.Ranges.{Account}
use Rattle.formulas.specs.Adjustment.{Moves, nmea_of}
use Rattle.formulas.specs.Basis.{Basis, Injection, Withdrawal}
use Rattle.formulas.specs.Figures.{weq_of, bsc_of, vcsc_of, fee_of, heua_of, heuc_of, nasc_of, total_load}
use Rattle.formulas.specs.Sums.{sum}

-- The uplift is shared out whole and in proportion to the loads.
pub record UpliftShared (i : Basis) : Type 0 where
  -- with a load, the shares add up to the uplift
  pub whole : 0 < total_load i → sum accounts (heuc_of i) ≡ heua_of i
  -- all loads times a share, and the uplift times that account's load, differ by less than all loads
  pub fair_above : (a : ℕ) → 1 ≤ a → 0 < total_load i → (pos (total_load i) *ℤ heuc_of i a) <ℤ (heua_of i *ℤ weq_of i a +ℤ pos (total_load i))
  pub fair_below : (a : ℕ) → 1 ≤ a → 0 < total_load i → (heua_of i *ℤ weq_of i a) <ℤ (pos (total_load i) *ℤ heuc_of i a +ℤ pos (total_load i))
  -- with no load, every share is 0
  pub nothing : (a : ℕ) → total_load i ≡ 0 → heuc_of i a ≡ pos 0

-- Nothing is gained or lost between the accounts.
pub record Conserved (i : Basis) : Type 0 where
  pub contracts : sum accounts (bsc_of i) ≡ pos 0
  pub vesting : sum accounts (vcsc_of i) ≡ pos 0
  pub fees : sum accounts (fee_of i) ≡ pos 0
  -- where the uplift finds a load, or is nothing, all accounts together are credited minus what was pending
  pub net : (0 < total_load i) ⊎ (heua_of i ≡ pos 0) → sum accounts (nasc_of i) ≡ neg_ℤ i.pending

-- where two moves of one facility are there, they are of the same account and at the same price
abbrev pub Alike : Option Injection → Option Injection → Type 0
Alike None o = Unit {0}
Alike (Some r) o = IfSome o (λ s. (r.account ≡ s.account) × (r.mep ≡ s.mep))

-- two moves of one facility as one: the injected energy adds up
abbrev pub joined_injection : Option Injection → Option Injection → Option Injection
joined_injection None o = o
joined_injection (Some r) None = Some r
joined_injection (Some r) (Some s) = Some (record { account = r.account; mep = r.mep; ieq = r.ieq +ℤ s.ieq })

-- two moves of one load as one: both energies add up
abbrev pub joined_withdrawal : Option Withdrawal → Option Withdrawal → Option Withdrawal
joined_withdrawal None o = o
joined_withdrawal (Some l) None = Some l
joined_withdrawal (Some l) (Some k) = Some (record { weq = l.weq +ℤ k.weq; wfq = l.wfq +ℤ k.wfq })

-- The moves of two corrections of one half hour, and of both as one correction.
pub record Joined (m n both : Moves) : Type 0 where
  -- all are at the same prices and rates
  pub usep : (m.usep ≡ both.usep) × (n.usep ≡ both.usep)
  pub rate : (m.rate ≡ both.rate) × (n.rate ≡ both.rate)
  pub uplift : (m.uplift ≡ both.uplift) × (n.uplift ≡ both.uplift)
  -- and under the same operator
  pub operator : (m.operator ≡ both.operator) × (n.operator ≡ both.operator)
  -- each facility is the same in both corrections, and what it moved adds up
  pub alike : (k : ℕ) → Alike (m.facility k) (n.facility k)
  pub facility : (k : ℕ) → both.facility k ≡ joined_injection (m.facility k) (n.facility k)
  -- what each load moved adds up
  pub load : (a : ℕ) → both.load a ≡ joined_withdrawal (m.load a) (n.load a)

-- Two corrections of one half hour, settled one after the other, come to what both as one correction come to.
abbrev pub CorrectionsJoin : Type 0
CorrectionsJoin = (m n both : Moves) → Joined m n both → (a : ℕ) → nmea_of m a +ℤ nmea_of n a ≡ nmea_of both a
