-- The statements that are held.
use Rattle.std.specs.Prelude.{◌≡◌, ℤ, pos}
use Rattle.statement.specs.declared.token.Statement.{Statement}

-- the statement is of that half hour, as a line names it
abbrev pub OfHalfHour : ℤ → ℤ → Statement → Type 0
OfHalfHour day interval s = (pos s.half_hour.day ≡ day) × (pos s.half_hour.interval ≡ interval)
