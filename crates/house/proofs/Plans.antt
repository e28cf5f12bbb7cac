-- How the answer of a reading follows from the answers of its steps.
use Rattle.std.proofs.Common.{◌≡◌, ℕ, Bool, List, [], ◌∷◌, ℤ, nat_abs, Some, Option, sym, ap, ◌∙◌, lit<}
use Rattle.units.specs.Checks.{Check, first_met}
use Rattle.units.specs.Refusals.{refusal_number}
use Rattle.units.specs.declared.refusal.Refusal.{Refusal}
use Rattle.units.specs.declared.stamp.Stamp.{Stamp}
use Rattle.register.specs.Keys.{Numbers, interval_key}
use Rattle.rows.specs.Meaning.{IntervalSaid, interval_says}
use Rattle.rows.specs.declared.interval.Interval.{Interval}
use Rattle.rows.specs.declared.phase.Phase.{Phase}
use Rattle.house.specs.Open.{check, if_open, moved_at, moved_to}
use Rattle.house.specs.Readings.{stamp_checks}
use Rattle.house.proofs.Answering.{passes, stops, stops_closed}

-- after the range check, the rest decides
pub past_range : (b : Bool) (more : List Check) → 0 ≡ first_met (check 1 b ∷ []) → first_met more ≡ first_met (check 1 b ∷ more)
past_range b more h = passes (check 1 b ∷ []) more (lit< tt, tt) h

-- a refusal because the interval is not open
pub not_open : (e : Refusal) (b : Bool) (o : Option IntervalSaid) (f : IntervalSaid → List Check) → 0 ≡ first_met (check 1 b ∷ []) → refusal_number e ≡ first_met (if_open o (λ _. [])) → refusal_number e ≡ first_met (check 1 b ∷ if_open o f)
not_open e b o f h n = stops_closed e o f n ∙ past_range b (if_open o f) h

-- past the interval's being open, and past the range check before
pub open_decides : (o : Option IntervalSaid) (i : IntervalSaid) (f : IntervalSaid → List Check) → o ≡ Some i → first_met (f i) ≡ first_met (if_open o f)
open_decides o i f e = ap (λ q. first_met (if_open q f)) (sym e)

pub past_open : (b : Bool) (o : Option IntervalSaid) (i : IntervalSaid) (f : IntervalSaid → List Check) → 0 ≡ first_met (check 1 b ∷ []) → o ≡ Some i → first_met (f i) ≡ first_met (check 1 b ∷ if_open o f)
past_open b o i f h e = open_decides o i f e ∙ past_range b (if_open o f) h

-- the half hour of a key
pub half_hour_is : (d t : ℕ) (k q : Numbers) → (d ≡ k.day) × (t ≡ k.interval) → q ≡ k → interval_key d t ≡ interval_key q.day q.interval
half_hour_is d t k q h e = let d' = h.0 in let t' = h.1 in cc

-- an interval that was moved
pub moved_at_is : (i j : Interval) (p : Phase) (s : Stamp) → j.half_hour ≡ i.half_hour → j.usep ≡ i.usep → j.rate ≡ i.rate → j.uplift ≡ i.uplift → j.phase ≡ p → j.last ≡ s → interval_says j ≡ moved_at p s.days s.minute (interval_says i)
moved_at_is i j p s h u r l q t = cc

module _ (d m : ℤ) (s : Stamp) (sd : s.days ≡ nat_abs d) (sm : s.minute ≡ nat_abs m) where
  pub moved_is : (i j : Interval) (p : Phase) → j.half_hour ≡ i.half_hour → j.usep ≡ i.usep → j.rate ≡ i.rate → j.uplift ≡ i.uplift → j.phase ≡ p → j.last ≡ s → interval_says j ≡ moved_to p d m (interval_says i)
  moved_is i j p h u r l q t = cc

module _ (d m : ℕ) (i : IntervalSaid) (more : List Check) where
  -- a refusal by the stamp's checks
  pub stamp_refuses : (e : Refusal) → refusal_number e ≡ first_met (stamp_checks d m i []) → refusal_number e ≡ first_met (stamp_checks d m i more)
  stamp_refuses e h = stops e (stamp_checks d m i []) more h

  -- past the stamp's checks
  pub past_stamp : 0 ≡ first_met (stamp_checks d m i []) → first_met more ≡ first_met (stamp_checks d m i more)
  past_stamp h = passes (stamp_checks d m i []) more (lit< tt, (lit< tt, (lit< tt, tt))) h
