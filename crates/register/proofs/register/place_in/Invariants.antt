use Rattle.std.proofs.Common.{◌≡◌, ◌<◌, length, drop, IfSome}
use Rattle.register.specs.Rows.{place}
use Rattle.register.proofs.Pass.{place_from}
use Rattle.register.proofs.register.place_in.Given as goal

abbrev pub invariant-loop-i : goal.invariant-loop-i
invariant-loop-i g l =
    (place_from g.R.Row.carried (g.R.Row.numbers l.key) l.i l.vacant (drop l.i l.rows) ≡ place g.R.Row.carried l.rows (g.R.Row.numbers l.key))
    × IfSome l.vacant (λ j. j < length l.rows)
