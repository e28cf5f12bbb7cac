use Rattle.std.proofs.Common.{refl, arith}
use Rattle.std.proofs.lemmas.Int.{ints}
use Rattle.rows.proofs.vesting.VestingRow.new.Goals as goal

pub returns-clause-made : goal.returns-clause-made
returns-clause-made c = (
  refl,
  omega (arith, ints, c.in_ok-account.ensures.made),
  omega (arith, ints, c.in_ok-tranche.ensures.made),
  omega (arith, ints, c.in_ok-take.ensures.made),
  omega (arith, ints, c.in_ok-take-2.ensures.made),
)
