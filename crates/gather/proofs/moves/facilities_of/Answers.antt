use Rattle.std.proofs.Common.{refl, rules}
use Rattle.records.specs.Moved.{injection_moved}
use Rattle.gather.specs.Gathered.{injection_by, facility_key}
use Rattle.gather.proofs.Passes.{by_number, view_means}
use Rattle.gather.proofs.moves.facilities_of.Goals as goal

pub returns : goal.returns
returns c =
    by_number facility_key (λ r. r.key.facility) (λ r. refl) injection_moved (injection_by c.args.correction) c.args.rows.now c.gather.result c.args.half_hour.day c.args.half_hour.interval 128
    (λ r. r.facility_ok) (search rules) (λ i l. view_means _ injection_moved (injection_by c.args.correction) (λ r v w. search rules) _ _ (c.gather.ensures i l))
