-- The cent layer: exact balances above a book that holds them in whole cents.
use Rattle.std.specs.Prelude.{◌≡◌, ℕ, zero, suc, ℤ, ◌≢◌}
unfoldable pub use Rattle.units.specs.Division.{whole_cents}
use Rattle.units.specs.Ranges.{Account}

-- the layer's own condition: each payable, the balance that the book below holds, is the exact balance in whole cents
abbrev pub InCents : (ℕ → ℤ) → (ℕ → ℤ) → Type 0
InCents payable exact = (a : ℕ) → Account a → payable a ≡ whole_cents (exact a)

-- the conditions of a layer, by number: its own is 0, and those of the book below follow
abbrev pub own_first : Type 0 → (ℕ → Type 0) → ℕ → Type 0
own_first own below zero = own
own_first own below (suc i) = below i

-- a book below after a posting through the layer: that account's payable is its new balance in whole cents, every other
-- payable is as before, and where the cents agreed already nothing was posted
pub record Paid {S : Type 0} (held : S → ℕ → ℤ) (a : ℕ) (balance : ℤ) (below below' : S) : Type 0 where
  pub payable : held below' a ≡ whole_cents balance
  pub others : (b : ℕ) → Account b → (b ≢ a) → held below' b ≡ held below b
  pub idle : held below a ≡ whole_cents balance → below' ≡ below
