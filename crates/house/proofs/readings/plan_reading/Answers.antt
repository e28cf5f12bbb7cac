use Rattle.std.proofs.Common.{◌≡◌, List, map, Some, Option, sym, ap, ◌∙◌}
use Rattle.std.specs.Option.{option_map}
use Rattle.units.specs.Checks.{Check, first_met}
use Rattle.register.specs.Keys.{interval_key}
use Rattle.register.specs.Rows.{lookup}
use Rattle.register.proofs.Rows.{lookup_carries}
use Rattle.rows.specs.Meaning.{IntervalSaid, interval_named, interval_rows, interval_says}
use Rattle.house.specs.Open.{open_at, put_row}
use Rattle.house.specs.Readings.{Handed, Kind, handed, interval_of, left, row_checks, sort_at, sort_of, stamp_checks, stamped}
use Rattle.house.proofs.Answering.{handed_on}
use Rattle.house.proofs.Plans.{half_hour_is, moved_at_is, open_decides, past_stamp, stamp_refuses}
use Rattle.house.proofs.readings.plan_reading.Goals as goal

-- the checks that depend on the interval
abbrev rest : {S : Type 0} → Kind S → Handed S → List (Option S) → IntervalSaid → List Check
rest kind h rows i = stamp_checks h.days h.minute i (row_checks kind h.row (sort_at h.days h.minute i) rows)

pub returns-in_err-sort-clause-answer : goal.returns-in_err-sort-clause-answer
returns-in_err-sort-clause-answer g c =
    let kind = g.R.Reading.kind in
    let taken = c.args.taken.now in
    let h = handed g.R.Reading.says taken in
    let is = interval_rows c.args.intervals.now in
    let rows = map (option_map g.R.Reading.says) c.args.rows.now in
    let i = interval_says c.in_ok-opened.opened.row in
    let key = half_hour_is c.half_hour.result.day c.half_hour.result.interval _ (kind.key h.row) c.half_hour.ensures (g.met.R.Reading.keyed taken.row) in
    let found : interval_of kind h is ≡ Some i = ap (open_at is) (sym key) ∙ c.in_ok-opened.ensures.found in
    let e = c.in_err-sort.field-0.0 in
    handed_on c.from_residual-in_err-sort.result e c.from_residual-in_err-sort.ensures.1
    ∙ stamp_refuses h.days h.minute i (row_checks kind h.row (sort_at h.days h.minute i) rows) e c.in_err-sort.ensures.answer
    ∙ open_decides (interval_of kind h is) i (rest kind h rows) found

pub returns-in_err-read-clause-answer : goal.returns-in_err-read-clause-answer
returns-in_err-read-clause-answer g c =
    let kind = g.R.Reading.kind in
    let taken = c.args.taken.now in
    let h = handed g.R.Reading.says taken in
    let is = interval_rows c.args.intervals.now in
    let rows = map (option_map g.R.Reading.says) c.args.rows.now in
    let i = interval_says c.in_ok-opened.opened.row in
    let key = half_hour_is c.half_hour.result.day c.half_hour.result.interval _ (kind.key h.row) c.half_hour.ensures (g.met.R.Reading.keyed taken.row) in
    let found : interval_of kind h is ≡ Some i = ap (open_at is) (sym key) ∙ c.in_ok-opened.ensures.found in
    let e = c.in_err-read.field-0.0 in
    handed_on c.from_residual-in_err-read.result e c.from_residual-in_err-read.ensures.1
    ∙ c.in_err-read.ensures.answer
    ∙ ap (λ o. first_met (row_checks kind h.row o rows)) (sym c.in_ok-sort.ensures.sort)
    ∙ past_stamp h.days h.minute i (row_checks kind h.row (sort_at h.days h.minute i) rows) c.in_ok-sort.ensures.answer
    ∙ open_decides (interval_of kind h is) i (rest kind h rows) found

pub returns : goal.returns
returns g c =
    let kind = g.R.Reading.kind in
    let taken = c.args.taken.now in
    let h = handed g.R.Reading.says taken in
    let is = interval_rows c.args.intervals.now in
    let rows = map (option_map g.R.Reading.says) c.args.rows.now in
    let opened = c.in_ok-opened.opened.row in
    let i = interval_says opened in
    let key = half_hour_is c.half_hour.result.day c.half_hour.result.interval _ (kind.key h.row) c.half_hour.ensures (g.met.R.Reading.keyed taken.row) in
    let found : interval_of kind h is ≡ Some i = ap (open_at is) (sym key) ∙ c.in_ok-opened.ensures.found in
    let sort = c.in_ok-sort.ensures.sort in
    let kept = c.moved-row.ensures.kept in
    let moved = c.moved-row.result in
    record {
      answer =
          c.in_ok-read.ensures.answer
          ∙ ap (λ o. first_met (row_checks kind h.row o rows)) (sym sort)
          ∙ past_stamp h.days h.minute i (row_checks kind h.row (sort_at h.days h.minute i) rows) c.in_ok-sort.ensures.answer
          ∙ open_decides (interval_of kind h is) i (rest kind h rows) found;
      intervals =
          c.in_ok-opened.ensures.writes moved (ap (λ q. interval_key q.day q.interval) kept.0 ∙ lookup_carries interval_named is _ i c.in_ok-opened.ensures.found)
          ∙ ap (λ j. put_row interval_named is (Some j)) (moved_at_is opened moved opened.phase taken.stamp kept.0 kept.1 kept.2 kept.3 c.moved-row.ensures.phase c.moved-row.ensures.last)
          ∙ ap (λ o. put_row interval_named is (option_map (stamped h.days h.minute) o)) (sym found);
      rows =
          c.in_ok-read.ensures.row
          ∙ ap (λ o. put_row kind.key rows (left kind h.row o (lookup kind.key rows (kind.key h.row)))) (sym (ap (sort_of h.days h.minute) found ∙ sort));
    }
