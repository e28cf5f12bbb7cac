-- The posting of one amount to each account, with no posting for a zero.
use Rattle.std.specs.Prelude.{◌≡◌, ℕ, zero, suc, ◌+◌, ◌-◌, ◌≤◌, Bool, false, cond, not, List, [], ◌∷◌, ℤ, pos, negsuc, ◌+ℤ◌, Ok, ◌==◌, ◌≢◌, nat_lt, slice_index_or}
use Rattle.units.specs.Checks.{Check}
use Rattle.units.specs.Ranges.{Account, accounts}
use Rattle.units.specs.declared.quantity.Money.{Money}
use Rattle.book.specs.Meaning.{is_balance, Posted}

-- how many of the numbers 1 to n pass a test
unfoldable pub count : ℕ → (ℕ → Bool) → ℕ
count zero t = 0
count (suc n) t = count n t + cond (t (suc n)) 1 0

-- whether z is zero
abbrev pub is_zero : ℤ → Bool
is_zero (pos n) = n == 0
is_zero (negsuc n) = false

-- what a list of amounts or of balances, by rising account, has for account a
abbrev pub amount_of : List Money → ℕ → ℤ
amount_of ms a = (slice_index_or ms (a - 1) (record { 0 = pos 0 })).0

-- whether account a's balance would pass the limit once its amount is added
abbrev pub beyond : (ℕ → ℤ) → (ℕ → ℤ) → ℕ → Bool
beyond held amount a = not (is_balance (held a +ℤ amount a))

-- whether account a gets a posting
abbrev pub is_posted : (ℕ → ℤ) → ℕ → Bool
is_posted amount a = not (is_zero (amount a))

-- how many accounts get a posting
abbrev pub postings : (ℕ → ℤ) → ℕ
postings amount = count accounts (is_posted amount)

-- the checks of the posting of a whole statement, in their order
abbrev pub statement_checks : (ℕ → ℤ) → ℕ → (ℕ → ℤ) → List Check
statement_checks held room amount =
    record { number = 15; met = nat_lt 0 (count accounts (beyond held amount)) }
    ∷ record { number = 16; met = nat_lt room (postings amount) }
    ∷ []

-- each account was raised by its amount, and places fell by no more than there were postings
pub record Settled (held : ℕ → ℤ) (room : ℕ) (amount held' : ℕ → ℤ) (room' : ℕ) : Type 0 where
  pub balances : (a : ℕ) → Account a → held' a ≡ held a +ℤ amount a
  pub no_more : room' ≤ room
  pub at_most : room ≤ room' + postings amount

-- account a's turn, from a book s to s': a zero leaves the book itself as it was, and any other amount is posted once and accepted
pub record Turn {S : Type 0} (held : S → ℕ → ℤ) (room : S → ℕ) (takes : S → ℕ → ℤ → S → Type 0) (a : ℕ) (amount : ℤ) (s s' : S) : Type 0 where
  pub none : amount ≡ pos 0 → s' ≡ s
  pub once : (amount ≢ pos 0) → Posted (held s) (room s) a amount (Ok tt) (held s') (room s')
  pub taken : (amount ≢ pos 0) → takes s a amount s'

-- the turns of the accounts 1 to n, one after the other by rising account, lead from a book s to s'
unfoldable pub InTurn : {S : Type 0} → (S → ℕ → ℤ) → (S → ℕ) → (S → ℕ → ℤ → S → Type 0) → (ℕ → ℤ) → ℕ → S → S → Type 0
InTurn held room takes amount zero s s' = s' ≡ s
InTurn {S} held room takes amount (suc n) s s'' = (s' : S) × InTurn held room takes amount n s s' × Turn held room takes (suc n) (amount (suc n)) s' s''
