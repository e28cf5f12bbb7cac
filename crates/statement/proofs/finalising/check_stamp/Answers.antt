use Rattle.std.proofs.Common.{leb, [], ◌∷◌, ◌∙◌}
use Rattle.units.specs.Stamps.{earlier, window}
use Rattle.house.specs.Open.{check}
use Rattle.house.proofs.Answering.{handed_on, stops}
use Rattle.statement.proofs.finalising.check_stamp.Goals as goal

pub returns-in_err-check_last : goal.returns-in_err-check_last
returns-in_err-check_last c =
    let s = c.args.stamp in
    let i = c.args.interval.now in
    handed_on c.from_residual.result c.in_err-check_last.field-0.0 c.from_residual.ensures.1
    ∙ stops c.in_err-check_last.field-0.0 (check 6 (earlier s.days s.minute i.last.days i.last.minute) ∷ []) (check 8 (leb (window s.days s.minute) 2) ∷ []) c.in_err-check_last.ensures
