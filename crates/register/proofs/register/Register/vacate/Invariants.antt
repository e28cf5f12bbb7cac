use Rattle.std.proofs.Common.{◌≡◌, ◌++◌, map, take, drop}
use Rattle.register.specs.Rows.{vacated}
use Rattle.register.proofs.register.Register.vacate.Given as goal

abbrev pub invariant-loop-slot : goal.invariant-loop-slot
invariant-loop-slot g l =
    l.slot-items ≡ map (vacated g.R.Row.carried l.half_hour.day l.half_hour.interval) (take l.slot-index l.initial.slot-items) ++ drop l.slot-index l.initial.slot-items
