-- The lines of a statement.
use Rattle.std.proofs.Common.{◌≡◌, ℕ, suc, ◌<◌, List, get_or, sym, subst}
use Rattle.units.specs.Ranges.{accounts}
use Rattle.formulas.specs.Basis.{Basis}
use Rattle.figures.specs.Settled.{LineIs, LinesAre}
use Rattle.figures.specs.declared.line.Line.{Line}

-- lines that begin like others
pub begin_alike : (b : Basis) (w lines : List Line) → ((k : ℕ) (d : Line) → k < accounts → get_or lines k d ≡ get_or w k d) → LinesAre b w → LinesAre b lines
begin_alike b w lines e h k l d = subst (λ (x : Line). LineIs b (suc k) x) (sym (e k d l)) (h k l d)
