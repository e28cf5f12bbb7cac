-- What a settled half hour holds, as an equation for each figure.
use Rattle.std.specs.Prelude.{◌≡◌, ℕ, suc, ◌<◌, List, pos, slice_index_or}
use Rattle.units.specs.Ranges.{accounts}
use Rattle.formulas.specs.Basis.{Basis}
use Rattle.formulas.specs.Figures.{gesc_of, lesd_of, bsc_of, vcsc_of, fee_of, heua_of, heuc_of, heur_of, nasc_of, total_load}
use Rattle.figures.specs.declared.line.Line.{Line}
use Rattle.figures.specs.declared.uplift.Uplift.{Uplift}
use Rattle.figures.specs.declared.worked.Figures.{Figures}

-- the uplift is that of the half hour
pub record UpliftIs (i : Basis) (u : Uplift) : Type 0 where
  pub amount : u.amount.0 ≡ heua_of i
  pub load : u.load.0 ≡ pos (total_load i)
  pub rate : u.rate.0 ≡ heur_of i

-- the line holds account a and its figures
pub record LineIs (i : Basis) (a : ℕ) (l : Line) : Type 0 where
  pub account : l.account ≡ a
  pub gesc : l.gesc.0 ≡ gesc_of i a
  pub lesd : l.lesd.0 ≡ lesd_of i a
  pub bsc : l.bsc.0 ≡ bsc_of i a
  pub vcsc : l.vcsc.0 ≡ vcsc_of i a
  pub fee : l.fee.0 ≡ fee_of i a
  pub heuc : l.heuc.0 ≡ heuc_of i a
  pub nasc : l.nasc.0 ≡ nasc_of i a

-- the lines hold every account with its figures, by rising account
abbrev pub LinesAre : Basis → List Line → Type 0
LinesAre i lines = (k : ℕ) → k < accounts → (d : Line) → LineIs i (suc k) (slice_index_or lines k d)

-- all figures are those of the half hour
pub record FiguresAre (i : Basis) (f : Figures) : Type 0 where
  pub uplift : UpliftIs i f.uplift
  pub lines : LinesAre i f.lines
