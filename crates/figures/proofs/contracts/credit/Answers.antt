use Rattle.std.proofs.Common.{suc, ◌-◌, arith}
use Rattle.std.proofs.lemmas.Int.{ints}
use Rattle.figures.proofs.Balanced.{credited}
use Rattle.figures.proofs.contracts.credit.Goals as goal

pub overflow_add-amounts : goal.overflow_add-amounts
overflow_add-amounts c = omega (arith, ints, c.requires.before (suc (c.args.account - 1)) (omega (arith, c.requires.account)))

pub returns : goal.returns
returns c = credited c.args.amounts.now c.args.account _ _ c.requires.account c.told-amounts (omega (arith, ints, c.requires.before (suc (c.args.account - 1)) (omega (arith, c.requires.account))))
