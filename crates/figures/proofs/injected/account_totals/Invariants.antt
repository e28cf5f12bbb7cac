use Rattle.std.proofs.Common.{ℕ, suc, ◌<◌, get_or}
use Rattle.std.specs.Option.{option_map}
use Rattle.units.specs.Ranges.{accounts}
use Rattle.figures.specs.Meaning.{injection_of, numbered}
use Rattle.figures.specs.Working.{Totalled, nothing_injected}
use Rattle.figures.proofs.injected.account_totals.Given as goal

abbrev pub invariant-loop-facility : goal.invariant-loop-facility
invariant-loop-facility g l = (k : ℕ) → k < accounts → Totalled (λ n. option_map injection_of (numbered l.facilities n)) l.facility-index (suc k) (get_or l.all k nothing_injected)
