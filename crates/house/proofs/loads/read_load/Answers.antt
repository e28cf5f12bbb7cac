use Rattle.std.proofs.Common.{not, [], ◌∷◌, ap, ◌∙◌}
use Rattle.units.specs.Checks.{first_met}
use Rattle.rows.specs.Meaning.{load_rows, interval_rows}
use Rattle.house.specs.Calls.{is_load}
use Rattle.house.specs.Open.{check}
use Rattle.house.specs.Readings.{load_handed, load_kind, reading_checks}
use Rattle.house.proofs.Answering.{handed_on, stops}
use Rattle.house.proofs.Plans.{past_range}
use Rattle.house.proofs.loads.read_load.Goals as goal

pub returns-in_err-taken-clause-answer : goal.returns-in_err-taken-clause-answer
returns-in_err-taken-clause-answer c =
    let call = c.args.call.now in
    let e = c.in_err-taken.field-0.0 in
    handed_on c.from_residual.result e c.from_residual.ensures.1
    ∙ stops e (check 1 (not (is_load call)) ∷ []) (reading_checks load_kind (load_handed call) (interval_rows c.args.intervals.now) (load_rows c.args.loads.now)) c.in_err-taken.ensures.answer

pub returns-clause-answer : goal.returns-clause-answer
returns-clause-answer c =
    let call = c.args.call.now in
    let is = interval_rows c.args.intervals.now in
    let rows = load_rows c.args.loads.now in
    c.read.ensures.answer
    ∙ ap (λ h. first_met (reading_checks load_kind h is rows)) c.in_ok-taken.ensures.handed
    ∙ past_range (not (is_load call)) (reading_checks load_kind (load_handed call) is rows) c.in_ok-taken.ensures.answer
