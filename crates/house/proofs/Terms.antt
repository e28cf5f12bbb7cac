-- How the answer of a bilateral contract or a vesting row follows from the answers of its steps.
use Rattle.std.proofs.Common.{◌≡◌, ℕ, not, eqb, List, [], ◌∷◌, map, is_some, MatchResult, Ok, Err, Option, Result, sym, ap, ◌∙◌, lit<}
use Rattle.std.specs.Option.{option_map}
use Rattle.units.specs.Checks.{Check, first_met}
use Rattle.units.specs.Refusals.{refusal_number}
use Rattle.units.specs.declared.refusal.Refusal.{Refusal}
use Rattle.register.specs.Keys.{Numbers}
use Rattle.register.specs.Rows.{place, placed}
use Rattle.register.proofs.Mapped.{place_mapped, placed_mapped}
use Rattle.rows.specs.Meaning.{IntervalSaid}
use Rattle.house.specs.Open.{check, half_hour_of, if_open, in_phase, open_at}
use Rattle.house.specs.Rows.{agreed_checks, reading_phase}
use Rattle.house.proofs.Answering.{open_passes, open_stops, passes, stops}

module _ {S : Type 0} (named : S → Numbers) (one other : ℕ) (row : S) (is : List (Option IntervalSaid)) (rows : List (Option S)) where
  abbrev two : Check
  two = check 2 (eqb one other)

  abbrev ten : Check
  ten = check 10 (not (is_some (place named rows (named row))))

  abbrev opened : Option IntervalSaid
  opened = open_at is (half_hour_of (named row))

  abbrev rest : List Check
  rest = if_open opened (λ i. check 7 (not (in_phase 1 i)) ∷ ten ∷ [])

  pub refused_party : (e : Refusal) → refusal_number e ≡ first_met (two ∷ []) → refusal_number e ≡ first_met (agreed_checks named one other row is rows)
  refused_party e h = stops e (two ∷ []) rest h

  pub refused_phase : (e : Refusal) → 0 ≡ first_met (two ∷ []) → refusal_number e ≡ first_met (if_open opened reading_phase) → refusal_number e ≡ first_met (agreed_checks named one other row is rows)
  refused_phase e h n = open_stops e opened reading_phase (ten ∷ []) n ∙ passes (two ∷ []) rest (lit< tt, tt) h

  pub past_phase : 0 ≡ first_met (two ∷ []) → 0 ≡ first_met (if_open opened reading_phase) → first_met (ten ∷ []) ≡ first_met (agreed_checks named one other row is rows)
  past_phase h n = open_passes opened reading_phase (ten ∷ []) (λ i. (lit< tt, tt)) n ∙ passes (two ∷ []) rest (lit< tt, tt) h

-- the rows after a row was put, by what they say
pub put_mapped : {R S : Type 0} (carried : R → Numbers) (named : S → Numbers) (says : R → S) (same : (r : R) → named (says r) ≡ carried r) (old new : List (Option R)) (row : R) (given : S) → says row ≡ given → (r : Result (Unit {0}) Refusal)
    → MatchResult r (λ _. new ≡ placed carried old row) (λ _. new ≡ old) → MatchResult r (λ _. map (option_map says) new ≡ placed named (map (option_map says) old) given) (λ _. new ≡ old)
put_mapped carried named says same old new row given e (Ok u) h = ap (map (option_map says)) h ∙ placed_mapped carried named says same old row ∙ ap (placed named (map (option_map says) old)) e
put_mapped carried named says same old new row given e (Err x) h = h

-- the checks of a row, by what it says
pub agreed_mapped : {R S : Type 0} (carried : R → Numbers) (named : S → Numbers) (says : R → S) (same : (r : R) → named (says r) ≡ carried r) (one other : ℕ) (row : R) (is : List (Option IntervalSaid)) (rows : List (Option R))
    → first_met (agreed_checks carried one other row is rows) ≡ first_met (agreed_checks named one other (says row) is (map (option_map says) rows))
agreed_mapped carried named says same one other row is rows =
    ap (λ o. first_met (check 2 (eqb one other) ∷ if_open (open_at is (half_hour_of (carried row))) (λ i. check 7 (not (in_phase 1 i)) ∷ check 10 (not (is_some o)) ∷ []))) (sym (place_mapped carried named says same rows (carried row)))
    ∙ ap (λ k. first_met (check 2 (eqb one other) ∷ if_open (open_at is (half_hour_of k)) (λ i. check 7 (not (in_phase 1 i)) ∷ check 10 (not (is_some (place named (map (option_map says) rows) k))) ∷ []))) (sym (same row))
