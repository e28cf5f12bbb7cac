-- The number of an answer, step by step.
use Rattle.std.proofs.Common.{◌≡◌, ℕ, ◌<◌, Bool, true, false, cond, not, List, [], ◌∷◌, ◌++◌, IsErrAnd, Some, None, Ok, Err, Option, Result, refl, ap, arith, ◌&&◌}
use Rattle.units.specs.Refusals.{answer_number, refusal_number}
use Rattle.units.specs.Checks.{Check, first_met}
use Rattle.units.specs.declared.refusal.Refusal.{Refusal}
use Rattle.units.specs.declared.refusal.Refusal.TheVariants.{OutOfRange, SameParty, NotAfterLatest, NotOpen, NotThisStatement, StampBeforeLast, WrongPhase, WrongWindow, NothingToCorrect, RegisterFull, TooFewLines, VestingWithoutFacility, NoLoadForUplift, UpliftBeyondLimit, BalanceBeyondLimit, TooFewPlaces}
use Rattle.rows.specs.Meaning.{IntervalSaid}
use Rattle.house.specs.Open.{if_open}

-- an error handed on is answered by its number
pub handed_on : {X : Type 0} (r : Result X Refusal) (e : Refusal) → IsErrAnd r (λ y. y ≡ e) → answer_number r ≡ refusal_number e
handed_on (Ok x) e h = absurd h
handed_on (Err y) e h = ap refusal_number h

-- the range check, met and not met
pub outside : (b : Bool) → false ≡ b → ◌≡◌ {A = ℕ} 1 (cond (not b) 1 0)
outside true e = cc
outside false e = refl

pub within : (b : Bool) → true ≡ b → ◌≡◌ {A = ℕ} 0 (cond (not b) 1 0)
within true e = refl
within false e = cc

-- no refusal has the number 0
pub has_number : (e : Refusal) → refusal_number e ≡ 0 → ⊥
has_number OutOfRange h = let z : ◌≡◌ {A = ℕ} 0 1 = cc in omega arith
has_number SameParty h = let z : ◌≡◌ {A = ℕ} 0 1 = cc in omega arith
has_number NotAfterLatest h = let z : ◌≡◌ {A = ℕ} 0 1 = cc in omega arith
has_number NotOpen h = let z : ◌≡◌ {A = ℕ} 0 1 = cc in omega arith
has_number NotThisStatement h = let z : ◌≡◌ {A = ℕ} 0 1 = cc in omega arith
has_number StampBeforeLast h = let z : ◌≡◌ {A = ℕ} 0 1 = cc in omega arith
has_number WrongPhase h = let z : ◌≡◌ {A = ℕ} 0 1 = cc in omega arith
has_number WrongWindow h = let z : ◌≡◌ {A = ℕ} 0 1 = cc in omega arith
has_number NothingToCorrect h = let z : ◌≡◌ {A = ℕ} 0 1 = cc in omega arith
has_number RegisterFull h = let z : ◌≡◌ {A = ℕ} 0 1 = cc in omega arith
has_number TooFewLines h = let z : ◌≡◌ {A = ℕ} 0 1 = cc in omega arith
has_number VestingWithoutFacility h = let z : ◌≡◌ {A = ℕ} 0 1 = cc in omega arith
has_number NoLoadForUplift h = let z : ◌≡◌ {A = ℕ} 0 1 = cc in omega arith
has_number UpliftBeyondLimit h = let z : ◌≡◌ {A = ℕ} 0 1 = cc in omega arith
has_number BalanceBeyondLimit h = let z : ◌≡◌ {A = ℕ} 0 1 = cc in omega arith
has_number TooFewPlaces h = let z : ◌≡◌ {A = ℕ} 0 1 = cc in omega arith

-- a refusal by the first checks is the refusal by all
pub stops : (e : Refusal) (xs ys : List Check) → refusal_number e ≡ first_met xs → refusal_number e ≡ first_met (xs ++ ys)
stops e [] ys h = absurd (has_number e h)
stops e (x ∷ xs) ys h = go (stops e xs ys) x.met h
  where
    go : (refusal_number e ≡ first_met xs → refusal_number e ≡ first_met (xs ++ ys)) → (b : Bool) → refusal_number e ≡ cond b x.number (first_met xs) → refusal_number e ≡ cond b x.number (first_met (xs ++ ys))
    go less true t = t
    go less false t = less t

-- every check has a number
abbrev pub Numbered : List Check → Type 0
Numbered [] = Unit {0}
Numbered (x ∷ xs) = (0 < x.number) × Numbered xs

-- where none of the first checks is met, the others decide
pub passes : (xs ys : List Check) → Numbered xs → 0 ≡ first_met xs → first_met ys ≡ first_met (xs ++ ys)
passes [] ys n h = refl
passes (x ∷ xs) ys n h = go (passes xs ys n.1) x.met h
  where
    go : (0 ≡ first_met xs → first_met ys ≡ first_met (xs ++ ys)) → (b : Bool) → 0 ≡ cond b x.number (first_met xs) → first_met ys ≡ cond b x.number (first_met (xs ++ ys))
    go less true t = absurd (omega (arith, n.0))
    go less false t = less t

-- a refusal of an interval that is not open
pub stops_closed : (e : Refusal) (o : Option IntervalSaid) (f : IntervalSaid → List Check) → refusal_number e ≡ first_met (if_open o (λ _. [])) → refusal_number e ≡ first_met (if_open o f)
stops_closed e None f h = h
stops_closed e (Some i) f h = absurd (has_number e h)

-- a refusal by the checks of the open interval, and past them
pub open_stops : (e : Refusal) (o : Option IntervalSaid) (f : IntervalSaid → List Check) (more : List Check) → refusal_number e ≡ first_met (if_open o f) → refusal_number e ≡ first_met (if_open o (λ i. f i ++ more))
open_stops e None f more h = h
open_stops e (Some i) f more h = stops e (f i) more h

pub open_passes : (o : Option IntervalSaid) (f : IntervalSaid → List Check) (more : List Check) → ((i : IntervalSaid) → Numbered (f i)) → 0 ≡ first_met (if_open o f) → first_met more ≡ first_met (if_open o (λ i. f i ++ more))
open_passes None f more n h = absurd (omega arith)
open_passes (Some i) f more n h = passes (f i) more (n i) h

-- of two tests the second fails, of three the second or the third; all of them pass
pub second_fails : (a b : Bool) → true ≡ a → false ≡ b → false ≡ (a && b)
second_fails a b p q = cc

pub middle_fails : (a b c : Bool) → true ≡ a → false ≡ b → false ≡ (a && b && c)
middle_fails a b c p q = cc

pub third_fails : (a b c : Bool) → true ≡ a → true ≡ b → false ≡ c → false ≡ (a && b && c)
third_fails a b c p q r = cc

pub two_pass : (a b : Bool) → true ≡ a → true ≡ b → true ≡ (a && b)
two_pass a b p q = cc

pub three_pass : (a b c : Bool) → true ≡ a → true ≡ b → true ≡ c → true ≡ (a && b && c)
three_pass a b c p q r = cc
