-- What the checks of a posting come to, and that a posting which meets none of them is accepted.
use Rattle.std.proofs.Common.{◌≡◌, ℕ, ◌<◌, ℤ, ◌+ℤ◌, Ok, Err, Result, refl, arith}
use Rattle.std.proofs.lemmas.Int.{ints}
use Rattle.std.proofs.lemmas.Bool.Decides.{nat_tests}
use Rattle.units.specs.Checks.{first_met}
use Rattle.units.specs.Ranges.{Account, Around}
use Rattle.units.specs.Refusals.{refusal_number}
use Rattle.units.specs.declared.quantity.Money.{Money}
use Rattle.units.specs.declared.refusal.Refusal.{Refusal}
use Rattle.units.specs.declared.refusal.Refusal.TheVariants.{OutOfRange, SameParty, NotAfterLatest, NotOpen, NotThisStatement, StampBeforeLast, WrongPhase, WrongWindow, NothingToCorrect, RegisterFull, TooFewLines, VestingWithoutFacility, NoLoadForUplift, UpliftBeyondLimit, BalanceBeyondLimit, TooFewPlaces}
use Rattle.book.specs.Meaning.{balance_limit, post_checks, Shown, Posted, account_checks}

-- no refusal has the number 0
pub refusal_positive : (e : Refusal) → 0 < refusal_number e
refusal_positive OutOfRange = omega arith
refusal_positive SameParty = omega arith
refusal_positive NotAfterLatest = omega arith
refusal_positive NotOpen = omega arith
refusal_positive NotThisStatement = omega arith
refusal_positive StampBeforeLast = omega arith
refusal_positive WrongPhase = omega arith
refusal_positive WrongWindow = omega arith
refusal_positive NothingToCorrect = omega arith
refusal_positive RegisterFull = omega arith
refusal_positive TooFewLines = omega arith
refusal_positive VestingWithoutFacility = omega arith
refusal_positive NoLoadForUplift = omega arith
refusal_positive UpliftBeyondLimit = omega arith
refusal_positive BalanceBeyondLimit = omega arith
refusal_positive TooFewPlaces = omega arith

-- an account's balance is never refused
pub shown_refused : (held : ℕ → ℤ) (a : ℕ) (e : Refusal) → Shown held a (Err e) → Account a → ⊥
shown_refused held a e s h =
    let none : first_met (account_checks a) ≡ 0 = grind (arith, nat_tests) in
    omega (arith, refusal_positive e, s.answer, none)

-- a balance is shown for an account alone
pub shown_account : (held : ℕ → ℤ) (a : ℕ) (m : Money) → Shown held a (Ok m) → Account a
shown_account held a m s = let e = s.answer in grind (arith, nat_tests)

pub accepts : (held : ℕ → ℤ) (room a : ℕ) (amount : ℤ) → Account a → Around balance_limit (held a +ℤ amount) → 0 < room → first_met (post_checks held room a amount) ≡ 0
accepts held room a amount h w p = grind (arith, ints, nat_tests)

-- a posting that meets no check is not refused
pub posted_refused : (held : ℕ → ℤ) (room a : ℕ) (amount : ℤ) (e : Refusal) (held' : ℕ → ℤ) (room' : ℕ) → Posted held room a amount (Err e) held' room' → Account a → Around balance_limit (held a +ℤ amount) → 0 < room → ⊥
posted_refused held room a amount e held' room' p h w q = omega (arith, refusal_positive e, p.answer, accepts held room a amount h w q)

-- so it is accepted
pub posted_ok : (held : ℕ → ℤ) (room a : ℕ) (amount : ℤ) (r : Result Unit Refusal) (held' : ℕ → ℤ) (room' : ℕ) → Posted held room a amount r held' room' → Account a → Around balance_limit (held a +ℤ amount) → 0 < room → r ≡ Ok tt
posted_ok held room a amount (Ok u) held' room' p h w q = refl
posted_ok held room a amount (Err e) held' room' p h w q = absurd (posted_refused held room a amount e held' room' p h w q)
