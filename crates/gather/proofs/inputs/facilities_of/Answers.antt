use Rattle.std.proofs.Common.{refl, rules}
use Rattle.records.specs.Meaning.{injection_of}
use Rattle.gather.specs.Gathered.{base_injection, facility_key}
use Rattle.gather.proofs.Passes.{by_number, view_means}
use Rattle.gather.proofs.inputs.facilities_of.Goals as goal

pub returns : goal.returns
returns c =
    by_number facility_key (λ r. r.key.facility) (λ r. refl) injection_of base_injection c.args.rows.now c.gather.result c.args.half_hour.day c.args.half_hour.interval 128
    (λ r. r.facility_ok) (search rules) (λ i l. view_means _ injection_of base_injection (λ r v w. search rules) _ _ (c.gather.ensures i l))
