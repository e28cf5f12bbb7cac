use Rattle.std.proofs.Common.{refl, rules}
use Rattle.units.specs.Ranges.{accounts}
use Rattle.records.specs.Meaning.{withdrawal_of}
use Rattle.gather.specs.Gathered.{base_withdrawal, load_key}
use Rattle.gather.proofs.Passes.{by_number, view_means}
use Rattle.gather.proofs.inputs.loads_of.Goals as goal

pub returns : goal.returns
returns c =
    by_number load_key (λ r. r.key.account) (λ r. refl) withdrawal_of base_withdrawal c.args.rows.now c.gather.result c.args.half_hour.day c.args.half_hour.interval accounts
    (λ r. r.account_ok) (search rules) (λ i l. view_means _ withdrawal_of base_withdrawal (λ r v w. search rules) _ _ (c.gather.ensures i l))
