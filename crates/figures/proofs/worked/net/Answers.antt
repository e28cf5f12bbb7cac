use Rattle.std.proofs.Common.{arith}
use Rattle.std.proofs.lemmas.Int.{ints}
use Rattle.figures.proofs.worked.net.Goals as goal

pub add-requires-2 : goal.add-requires-2
add-requires-2 c = omega (arith, ints, c.sub.ensures, c.add.ensures)

pub sub-requires-2 : goal.sub-requires-2
sub-requires-2 c = omega (arith, ints, c.sub.ensures, c.add.ensures, c.add-2.ensures)

pub sub-requires-3 : goal.sub-requires-3
sub-requires-3 c = omega (arith, ints, c.sub.ensures, c.add.ensures, c.add-2.ensures, c.sub-2.ensures)
