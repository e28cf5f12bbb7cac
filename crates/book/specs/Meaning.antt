-- What a book means, a balance for each account and a number of places, and what its calls do to that.
use Rattle.std.specs.Prelude.{◌≡◌, ℕ, ◌+◌, ◌*◌, ◌≤◌, Bool, not, ◌&&◌, List, [], ◌∷◌, ℤ, pos, ◌+ℤ◌, neg_ℤ, IfOk, Result, MatchResult, ◌==◌, ◌≢◌, int_le, nat_le, unsigned_abs}
use Rattle.units.specs.Checks.{Check, first_met}
use Rattle.units.specs.Ranges.{Account, accounts, balance_range, inside}
use Rattle.units.specs.Refusals.{answer_number}
use Rattle.units.specs.declared.quantity.Money.{Money}
use Rattle.units.specs.declared.refusal.Refusal.{Refusal}

-- how far from zero a balance may lie, in millicents
abbrev pub balance_limit : ℕ
balance_limit = unsigned_abs balance_range.high

-- whether a is the number of an account
abbrev pub is_account : ℕ → Bool
is_account a = nat_le 1 a && nat_le a accounts

-- how far from zero an amount may lie that leads from one balance to another
abbrev pub amount_limit : ℕ
amount_limit = 2 * balance_limit

-- whether z lies at most that far from zero
abbrev pub is_around : ℕ → ℤ → Bool
is_around far z = int_le (neg_ℤ (pos far)) z && int_le z (pos far)

-- whether a balance may be z
abbrev pub is_balance : ℤ → Bool
is_balance z = inside balance_range z

-- every balance is zero
abbrev pub Zeros : (ℕ → ℤ) → Type 0
Zeros held = (a : ℕ) → Account a → held a ≡ pos 0

-- the checks of a call that names an account
abbrev pub account_checks : ℕ → List Check
account_checks a = record { number = 1; met = not (is_account a) } ∷ []

-- the checks of a posting, in their order
abbrev pub post_checks : (ℕ → ℤ) → ℕ → ℕ → ℤ → List Check
post_checks held room a amount =
    record { number = 1; met = not (is_account a) }
    ∷ record { number = 15; met = not (is_balance (held a +ℤ amount)) }
    ∷ record { number = 16; met = (room == 0) }
    ∷ []

-- a call that shows a balance: the answer's number, and the balance where it is accepted
pub record Shown (held : ℕ → ℤ) (a : ℕ) (r : Result Money Refusal) : Type 0 where
  pub answer : answer_number r ≡ first_met (account_checks a)
  pub value : IfOk r (λ m. m.0 ≡ held a)

-- nothing has changed: every balance and the places are as before
pub record Kept (held : ℕ → ℤ) (room : ℕ) (held' : ℕ → ℤ) (room' : ℕ) : Type 0 where
  pub balances : (b : ℕ) → Account b → held' b ≡ held b
  pub places : room' ≡ room

-- account a was raised by an amount, every other balance is as before, and places stayed or fell by one
pub record Raised (held : ℕ → ℤ) (room a : ℕ) (amount : ℤ) (held' : ℕ → ℤ) (room' : ℕ) : Type 0 where
  pub balance : held' a ≡ held a +ℤ amount
  pub others : (b : ℕ) → Account b → (b ≢ a) → held' b ≡ held b
  pub no_more : room' ≤ room
  pub at_most_one : room ≤ room' + 1

-- a posting: the answer's number, and the balances and places after it
pub record Posted (held : ℕ → ℤ) (room a : ℕ) (amount : ℤ) (r : Result Unit Refusal) (held' : ℕ → ℤ) (room' : ℕ) : Type 0 where
  pub answer : answer_number r ≡ first_met (post_checks held room a amount)
  pub after : MatchResult r (λ _. Raised held room a amount held' room') (λ _. Kept held room held' room')
