use Rattle.std.proofs.Common.{rules}
use mathlib.Core.Path.{fun_ext}
use Rattle.gather.specs.Gathered.{moves_at}
use Rattle.gather.proofs.Moved.{same_moves}
use Rattle.gather.proofs.moves.moves_of.Goals as goal

pub returns : goal.returns
unfolding moves_at
returns c =
    let i = c.args.interval.now in
    same_moves i.usep.0 i.rate.0 _ _ c.args.operator _ _ _ _
    (search rules) (fun_ext c.facilities_of.ensures) (fun_ext c.loads_of.ensures)
