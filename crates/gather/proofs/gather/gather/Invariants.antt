use Rattle.std.proofs.Common.{◌≡◌, ℕ, ◌<◌, length, get_or, take, None}
use Rattle.std.specs.Fn.{FnReturnsAt}
use Rattle.register.specs.Rows.{lookup}
use Rattle.gather.specs.Viewed.{ViewOf}
use Rattle.gather.proofs.gather.gather.Given as goal

abbrev pub invariant-loop-slot : goal.invariant-loop-slot
invariant-loop-slot g l = record {
  filled : length l.held ≡ g.row.N;
  seen : (i : ℕ) → i < g.row.N → ViewOf (FnReturnsAt g.F.Fn l.view) (lookup g.R.Row.carried (take l.slot-index l.rows) (g.R.Placed.keyed l.half_hour.day l.half_hour.interval i)) (get_or l.held i None);
}
