use Rattle.std.proofs.Common.{[], ◌∷◌, ◌∙◌}
use Rattle.units.specs.Stamps.{earlier, window}
use Rattle.rows.specs.Phases.{phase_number}
use Rattle.rows.specs.Sorts.{sort_checks}
use Rattle.house.specs.Open.{check}
use Rattle.house.proofs.Answering.{handed_on, stops}
use Rattle.house.proofs.sorts.sort_at.Goals as goal

pub returns-in_err-check_last-clause-answer : goal.returns-in_err-check_last-clause-answer
returns-in_err-check_last-clause-answer c =
    let s = c.args.stamp in
    let i = c.args.interval.now in
    let e = c.in_err-check_last.field-0.0 in
    handed_on c.from_residual.result e c.from_residual.ensures.1
    ∙ stops e (check 6 (earlier s.days s.minute i.last.days i.last.minute) ∷ []) (sort_checks (phase_number i.phase) (window s.days s.minute)) c.in_err-check_last.ensures
