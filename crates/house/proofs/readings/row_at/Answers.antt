use Rattle.std.proofs.Common.{◌≡◌, map, Some, None, sym, ap, ◌∙◌, rules}
use Rattle.std.specs.Option.{option_flatten, option_map}
use Rattle.units.specs.Refusals.{refusal_number}
use Rattle.units.specs.declared.refusal.Refusal.TheVariants.{RegisterFull}
use Rattle.register.specs.Rows.{lookup}
use Rattle.register.specs.declared.register.Sought.{Sought}
use Rattle.register.proofs.Rows.{lookup_carries}
use Rattle.house.specs.Readings.{left}
use Rattle.house.proofs.Answering.{handed_on}
use Rattle.house.proofs.Places.{left_key, past_row, refused_row, sought_place, sought_row, written}
use Rattle.house.proofs.readings.row_at.Goals as goal

pub returns-in_err-row-clause-answer : goal.returns-in_err-row-clause-answer
returns-in_err-row-clause-answer g c =
    let kind = g.R.Reading.kind in
    let says = g.R.Reading.says in
    let rows = c.args.rows.now in
    let reading = c.args.reading.now in
    let new = says reading in
    let row : c.and_then.result ≡ option_flatten (option_map (λ (s : Sought g.row.R.Denot). s.row) c.seek-sought.result) = search rules in
    let found = sought_row g.R.Row.carried kind.key says g.met.R.Reading.keyed rows _ (kind.key new) _ (row ∙ c.seek-sought.ensures.row) (c.key.ensures ∙ sym (g.met.R.Reading.keyed reading)) in
    let e = c.in_err-row.field-0.0 in
    handed_on c.from_residual.result e c.from_residual.ensures.1 ∙ refused_row kind new c.args.sort (map (option_map says) rows) _ found e c.in_err-row.ensures.answer

pub returns-in_err-place-clause-answer : goal.returns-in_err-place-clause-answer
returns-in_err-place-clause-answer g c =
    let kind = g.R.Reading.kind in
    let says = g.R.Reading.says in
    let rows = c.args.rows.now in
    let reading = c.args.reading.now in
    let new = says reading in
    let key = c.key.ensures ∙ sym (g.met.R.Reading.keyed reading) in
    let row : c.and_then.result ≡ option_flatten (option_map (λ (s : Sought g.row.R.Denot). s.row) c.seek-sought.result) = search rules in
    let found = sought_row g.R.Row.carried kind.key says g.met.R.Reading.keyed rows _ (kind.key new) _ (row ∙ c.seek-sought.ensures.row) key in
    let nothing : c.seek-sought.result ≡ None = search rules in
    let nowhere = sought_place g.R.Row.carried kind.key says g.met.R.Reading.keyed rows _ (kind.key new) _ (ap (option_map (λ (s : Sought g.row.R.Denot). s.index)) (sym nothing) ∙ c.seek-sought.ensures.place) key in
    let e : c.in_err-place.field-0.0 ≡ RegisterFull = search rules in
    handed_on c.from_residual-in_err-place.result c.in_err-place.field-0.0 c.from_residual-in_err-place.ensures.1 ∙ ap refusal_number e ∙ past_row kind new c.args.sort (map (option_map says) rows) _ found None nowhere c.in_ok-row.ensures.answer

pub returns : goal.returns
returns g c =
    let kind = g.R.Reading.kind in
    let says = g.R.Reading.says in
    let rows = c.args.rows.now in
    let reading = c.args.reading.now in
    let new = says reading in
    let key = c.key.ensures ∙ sym (g.met.R.Reading.keyed reading) in
    let row : c.and_then.result ≡ option_flatten (option_map (λ (s : Sought g.row.R.Denot). s.row) c.seek-sought.result) = search rules in
    let found = sought_row g.R.Row.carried kind.key says g.met.R.Reading.keyed rows _ (kind.key new) _ (row ∙ c.seek-sought.ensures.row) key in
    let at : c.seek-sought.result ≡ Some c.in_ok-place.place = search rules in
    let there = sought_place g.R.Row.carried kind.key says g.met.R.Reading.keyed rows _ (kind.key new) _ (ap (option_map (λ (s : Sought g.row.R.Denot). s.index)) (sym at) ∙ c.seek-sought.ensures.place) key in
    let left_is = c.in_ok-row.ensures.row in
    record {
      answer = past_row kind new c.args.sort (map (option_map says) rows) _ found (Some c.in_ok-place.place.index) there c.in_ok-row.ensures.answer;
      row =
          written g.R.Row.carried kind.key says g.met.R.Reading.keyed rows (kind.key new) c.in_ok-place.place.index c.in_ok-row.row (left kind new (Some c.args.sort) (lookup kind.key (map (option_map says) rows) (kind.key new))) (sym there)
          (ap (left kind new (Some c.args.sort)) (sym found) ∙ left_is)
          (left_key kind g.met.R.Reading.keeps new (says c.in_ok-row.row) c.args.sort _ (λ o e. lookup_carries kind.key (map (option_map says) rows) (kind.key new) o (sym found ∙ e)) left_is);
    }
