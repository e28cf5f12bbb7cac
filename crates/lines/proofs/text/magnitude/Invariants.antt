use Rattle.std.proofs.Common.{◌≡◌, ◌≤◌, drop}
use Rattle.lines.specs.Numerals.{digits_after, far, clamped}
use Rattle.lines.proofs.text.magnitude.Given as goal

abbrev pub invariant-loop-b : goal.invariant-loop-b
invariant-loop-b l = (l.upto ≤ far) × (clamped (digits_after l.upto (drop l.b-index l.digits)) ≡ clamped (digits_after 0 l.digits))
