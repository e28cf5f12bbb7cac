-- Finals: the checks in the order of their numbers, and what an accepted one changes.
use Rattle.std.specs.Prelude.{ℕ, not, List, [], ◌∷◌, ◌++◌, ℤ, Some, Ok, Err, Option, Result, nat_le, nat_lt, unsigned_abs}
use Rattle.std.specs.Option.{option_map}
use Rattle.units.specs.Checks.{Check}
use Rattle.units.specs.Ranges.{accounts}
use Rattle.units.specs.Refusals.{refusal_number}
use Rattle.units.specs.Stamps.{window}
use Rattle.book.specs.Statement.{statement_checks}
use Rattle.formulas.specs.Basis.{Basis}
use Rattle.formulas.specs.Figures.{heur_of, nasc_of, settling_checks}
use Rattle.register.specs.Keys.{Numbers}
use Rattle.rows.specs.Meaning.{IntervalSaid, interval_named}
use Rattle.rows.specs.declared.phase.Phase.TheVariants.{Final}
use Rattle.house.specs.Calls.{is_stamp}
use Rattle.house.specs.Open.{before_last, check, if_open, open_at, put_row}
use Rattle.house.specs.State.{key_of}
use Rattle.statement.specs.Statements.{belongs}
use Rattle.statement.specs.declared.token.Refused.{Refused}
use Rattle.statement.specs.declared.token.Statement.{Statement}

-- the number of a final's answer: 0 where it was accepted
abbrev pub final_number : Result Unit Refused → ℕ
final_number (Ok x) = 0
final_number (Err e) = refusal_number e.refusal

-- the key of a statement's half hour
abbrev pub statement_key : Statement → Numbers
statement_key s = key_of s.half_hour

-- what keeps an interval from a final at that stamp: a stamp before the last, a stamp in window 1 or 2
abbrev pub final_stamp : ℤ → ℤ → IntervalSaid → List Check
final_stamp d m i =
    check 6 (before_last d m i)
    ∷ check 8 (nat_le (window (unsigned_abs d) (unsigned_abs m)) 2)
    ∷ []

-- the checks of a final but for those of the book: with n lines to write into, of the half hour that `basis` gives
abbrev pub final_planning : Statement → ℤ → ℤ → ℕ → List (Option IntervalSaid) → ℕ → (IntervalSaid → Basis) → List Check
final_planning s d m number is n basis =
    check 1 (not (is_stamp d m))
    ∷ check 5 (not (belongs s number is))
    ∷ if_open (open_at is (statement_key s)) (λ i. final_stamp d m i ++ check 11 (nat_lt n accounts) ∷ settling_checks (basis i))

-- the checks of a final over a book that holds those balances and has room for that many postings
abbrev pub final_checks : Statement → ℤ → ℤ → ℕ → List (Option IntervalSaid) → ℕ → (IntervalSaid → Basis) → (ℕ → ℤ) → ℕ → List Check
final_checks s d m number is n basis held room =
    check 1 (not (is_stamp d m))
    ∷ check 5 (not (belongs s number is))
    ∷ if_open (open_at is (statement_key s)) (λ i.
    (final_stamp d m i ++ check 11 (nat_lt n accounts) ∷ settling_checks (basis i)) ++ statement_checks held room (nasc_of (basis i)))

-- the interval after its final: its uplift rate is stored
abbrev pub finalised : ℤ → ℤ → (IntervalSaid → Basis) → IntervalSaid → IntervalSaid
finalised d m basis i = record { key = i.key; usep = i.usep; rate = i.rate; phase = Final; days = unsigned_abs d; minute = unsigned_abs m; uplift = Some (heur_of (basis i)) }

-- the intervals after a final
abbrev pub final_intervals : Statement → ℤ → ℤ → (IntervalSaid → Basis) → List (Option IntervalSaid) → List (Option IntervalSaid)
final_intervals s d m basis is = put_row interval_named is (option_map (finalised d m basis) (open_at is (statement_key s)))
