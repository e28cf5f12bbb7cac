use Rattle.std.proofs.Common.{refl, rules}
use Rattle.records.specs.Meaning.{bilateral_of}
use Rattle.gather.specs.Gathered.{contract_in, contract_key}
use Rattle.gather.proofs.Passes.{by_number, view_means}
use Rattle.gather.proofs.inputs.contracts_of.Goals as goal

pub returns : goal.returns
returns c =
    by_number contract_key (λ r. r.key.contract) (λ r. refl) bilateral_of contract_in c.args.rows.now c.gather.result c.args.half_hour.day c.args.half_hour.interval 64
    (λ r. r.contract_ok) (search rules) (λ i l. view_means _ bilateral_of contract_in (λ r v w. search rules) _ _ (c.gather.ensures i l))
