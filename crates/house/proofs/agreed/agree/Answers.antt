use Rattle.std.proofs.Common.{refl, ap, ◌∙◌}
use Rattle.units.specs.Checks.{first_met}
use Rattle.rows.specs.Meaning.{interval_rows}
use Rattle.house.specs.Open.{if_open, open_at}
use Rattle.house.specs.Rows.{reading_phase}
use Rattle.house.proofs.Answering.{handed_on}
use Rattle.house.proofs.Plans.{half_hour_is}
use Rattle.house.proofs.Terms.{past_phase, refused_party, refused_phase}
use Rattle.house.proofs.agreed.agree.Goals as goal

pub returns-in_err-check_apart-clause-answer : goal.returns-in_err-check_apart-clause-answer
returns-in_err-check_apart-clause-answer g c =
    let e = c.in_err-check_apart.field-0.0 in
    handed_on c.from_residual.result e c.from_residual.ensures.1
    ∙ refused_party g.R.Row.carried c.args.one c.args.other c.args.row (interval_rows c.args.intervals.now) c.args.rows.now e c.in_err-check_apart.ensures

pub returns-in_err-check_reading-clause-answer : goal.returns-in_err-check_reading-clause-answer
returns-in_err-check_reading-clause-answer g c =
    let is = interval_rows c.args.intervals.now in
    let h = c.half_hour.result in
    let e = c.in_err-check_reading.field-0.0 in
    let key = half_hour_is h.day h.interval (g.R.Row.carried c.args.row) (g.R.Row.carried c.args.row) c.half_hour.ensures refl in
    handed_on c.from_residual-in_err-check_reading.result e c.from_residual-in_err-check_reading.ensures.1
    ∙ refused_phase g.R.Row.carried c.args.one c.args.other c.args.row is c.args.rows.now e c.in_ok-check_apart.ensures
    (c.in_err-check_reading.ensures ∙ ap (λ k. first_met (if_open (open_at is k) reading_phase)) key)

pub returns-clause-answer : goal.returns-clause-answer
returns-clause-answer g c =
    let is = interval_rows c.args.intervals.now in
    let h = c.half_hour.result in
    let key = half_hour_is h.day h.interval (g.R.Row.carried c.args.row) (g.R.Row.carried c.args.row) c.half_hour.ensures refl in
    c.put_row.ensures.answer
    ∙ past_phase g.R.Row.carried c.args.one c.args.other c.args.row is c.args.rows.now c.in_ok-check_apart.ensures
    (c.in_ok-check_reading.ensures ∙ ap (λ k. first_met (if_open (open_at is k) reading_phase)) key)
