-- The number by which each refusal is answered, and that of an answer.
use Rattle.std.specs.Prelude.{ℕ, Ok, Err, Result}
use Rattle.units.specs.declared.refusal.Refusal.{Refusal}
use Rattle.units.specs.declared.refusal.Refusal.TheVariants.{OutOfRange, SameParty, NotAfterLatest, NotOpen, NotThisStatement, StampBeforeLast, WrongPhase, WrongWindow, NothingToCorrect, RegisterFull, TooFewLines, VestingWithoutFacility, NoLoadForUplift, UpliftBeyondLimit, BalanceBeyondLimit, TooFewPlaces}

-- the number of a refusal
abbrev pub refusal_number : Refusal → ℕ
refusal_number OutOfRange = 1
refusal_number SameParty = 2
refusal_number NotAfterLatest = 3
refusal_number NotOpen = 4
refusal_number NotThisStatement = 5
refusal_number StampBeforeLast = 6
refusal_number WrongPhase = 7
refusal_number WrongWindow = 8
refusal_number NothingToCorrect = 9
refusal_number RegisterFull = 10
refusal_number TooFewLines = 11
refusal_number VestingWithoutFacility = 12
refusal_number NoLoadForUplift = 13
refusal_number UpliftBeyondLimit = 14
refusal_number BalanceBeyondLimit = 15
refusal_number TooFewPlaces = 16

-- the number of an answer: 0 where the call was accepted
abbrev pub answer_number : {X : Type 0} → Result X Refusal → ℕ
answer_number (Ok x) = 0
answer_number (Err e) = refusal_number e
