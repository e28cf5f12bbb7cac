-- The open interval that a call speaks of, and the checks that depend on it.
use Rattle.std.specs.Prelude.{ℕ, Bool, true, List, [], ◌∷◌, ℤ, Some, None, Option, ◌==◌, unsigned_abs}
use Rattle.units.specs.Checks.{Check}
use Rattle.units.specs.Stamps.{earlier}
use Rattle.register.specs.Keys.{Numbers, interval_key}
use Rattle.register.specs.Rows.{lookup, placed}
use Rattle.rows.specs.Meaning.{IntervalSaid, interval_named}
use Rattle.rows.specs.Phases.{phase_number}
use Rattle.rows.specs.declared.phase.Phase.{Phase}

-- the open interval of that key
abbrev pub open_at : List (Option IntervalSaid) → Numbers → Option IntervalSaid
open_at is k = lookup interval_named is k

-- the key of a key's half hour
abbrev pub half_hour_of : Numbers → Numbers
half_hour_of k = interval_key k.day k.interval

-- a check with its number
abbrev pub check : ℕ → Bool → Check
check n b = record { number = n; met = b }

-- 4 where the interval is not open, else the checks that depend on it
abbrev pub if_open : Option IntervalSaid → (IntervalSaid → List Check) → List Check
if_open None f = check 4 true ∷ []
if_open (Some i) f = f i

-- whether the stamp is before the interval's last
abbrev pub before_last : ℤ → ℤ → IntervalSaid → Bool
before_last d m i = earlier (unsigned_abs d) (unsigned_abs m) i.days i.minute

-- whether the interval is in that phase
abbrev pub in_phase : ℕ → IntervalSaid → Bool
in_phase p i = phase_number i.phase == p

-- the interval in that phase, with that last stamp, and with one as it is handed in
abbrev pub moved_at : Phase → ℕ → ℕ → IntervalSaid → IntervalSaid
moved_at p d m i = record { key = i.key; usep = i.usep; rate = i.rate; phase = p; days = d; minute = m; uplift = i.uplift }

abbrev pub moved_to : Phase → ℤ → ℤ → IntervalSaid → IntervalSaid
moved_to p d m i = moved_at p (unsigned_abs d) (unsigned_abs m) i

-- the rows with a row put, where there is one to put
abbrev pub put_row : {S : Type 0} → (S → Numbers) → List (Option S) → Option S → List (Option S)
put_row named rows None = rows
put_row named rows (Some r) = placed named rows r
