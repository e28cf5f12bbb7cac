use Rattle.std.proofs.Common.{arith}
use Rattle.std.proofs.lemmas.Int.{ints}
use Rattle.adjustment.proofs.adjust.less.Goals as goal

pub sub-requires-2 : goal.sub-requires-2
sub-requires-2 c = omega (arith, ints, c.sub.ensures)

pub sub-requires-3 : goal.sub-requires-3
sub-requires-3 c = omega (arith, ints, c.sub.ensures, c.sub-2.ensures)

pub returns : goal.returns
returns c = record {
  value = omega (arith, ints, c.sub.ensures, c.sub-2.ensures, c.sub-3.ensures);
  bound = omega (arith, ints, c.sub.ensures, c.sub-2.ensures, c.sub-3.ensures);
}
