-- Amounts by account, and what the code's records say, as the figures' definitions read them.
use Rattle.std.specs.Prelude.{◌≡◌, ℕ, zero, suc, List, ℤ, pos, slice_index_or}
use Rattle.units.specs.Ranges.{Account, Around}
use Rattle.units.specs.declared.quantity.Money.{Money}
pub use Rattle.records.specs.Meaning.{basis_of, bilateral_of, injection_of, no_tranches, numbered, tranche, tranches_of, vested_of, withdrawal_of}

-- the amount of account a in a list by account
abbrev pub amount_at : List Money → ℕ → ℤ
amount_at xs zero = pos 0
amount_at xs (suc n) = (slice_index_or xs n (record { 0 = pos 0 })).0

-- each amount is small enough that all of them together stay within the figures' bound
abbrev pub Modest : List Money → Type 0
Modest xs = (a : ℕ) → Account a → Around 10000000000000000 (amount_at xs a)

-- each account's amount in a list by account is f's
abbrev pub AmountsAre : List Money → (ℕ → ℤ) → Type 0
AmountsAre xs f = (a : ℕ) → Account a → amount_at xs a ≡ f a
