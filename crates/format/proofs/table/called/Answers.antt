use Rattle.std.proofs.Common.{codes, arith, rules}
use Rattle.format.proofs.Words.{says}
use Rattle.format.proofs.table.called.Goals as goal

pub returns-in-vesting : goal.returns-in-vesting
returns-in-vesting c = says _ c.args.word.now (codes "vesting") (omega arith) (search rules) c.vesting.ensures

pub returns-in-interval : goal.returns-in-interval
returns-in-interval c = says _ c.args.word.now (codes "interval") (omega arith) (search rules) c.interval.ensures

pub returns-in-facility : goal.returns-in-facility
returns-in-facility c = says _ c.args.word.now (codes "facility") (omega arith) (search rules) c.facility.ensures

pub returns-in-contract : goal.returns-in-contract
returns-in-contract c = says _ c.args.word.now (codes "contract") (omega arith) (search rules) c.contract.ensures

pub returns-in-withdraw : goal.returns-in-withdraw
returns-in-withdraw c = says _ c.args.word.now (codes "withdraw") (omega arith) (search rules) c.withdraw.ensures

pub returns-in-preliminary : goal.returns-in-preliminary
returns-in-preliminary c = says _ c.args.word.now (codes "preliminary") (omega arith) (search rules) c.preliminary.ensures
