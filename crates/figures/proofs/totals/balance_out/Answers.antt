use Rattle.std.proofs.Common.{suc, ◌-◌, arith}
use Rattle.std.proofs.lemmas.Int.{ints}
use Rattle.figures.proofs.Balanced.{balanced_out}
use Rattle.figures.proofs.totals.balance_out.Goals as goal

pub overflow_sub-amounts : goal.overflow_sub-amounts
overflow_sub-amounts c = omega (arith, ints, c.requires.modest (suc (c.args.x - 1)) (omega (arith, c.requires.account)))

pub returns : goal.returns
returns c =
    balanced_out c.args.amounts.now c.args.x _ c.requires.account c.told-amounts (omega (arith, ints, c.requires.modest (suc (c.args.x - 1)) (omega (arith, c.requires.account))))
