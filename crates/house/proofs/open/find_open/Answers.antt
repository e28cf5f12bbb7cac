use Rattle.std.proofs.Common.{◌≡◌, List, [], Some, None, Option, sym, refl, ap, ◌∙◌, rules}
use Rattle.std.specs.Option.{option_flatten, option_map}
use Rattle.units.specs.Checks.{first_met}
use Rattle.units.specs.Refusals.{refusal_number}
use Rattle.units.specs.declared.refusal.Refusal.TheVariants.{NotOpen}
use Rattle.register.specs.Keys.{Numbers, interval_key}
use Rattle.register.specs.Rows.{lookup, place}
use Rattle.register.specs.declared.register.Sought.{Sought}
use Rattle.register.proofs.Mapped.{lookup_mapped, written_mapped}
use Rattle.rows.specs.Meaning.{interval_named, interval_rows, interval_says}
use Rattle.rows.specs.declared.interval.Interval.{Interval}
use Rattle.house.specs.Open.{if_open, open_at}
use Rattle.house.proofs.Answering.{handed_on}
use Rattle.house.proofs.open.find_open.Goals as goal

abbrev carried : Interval → Numbers
carried i = (interval_says i).key

-- the row that was sought
abbrev row_of : Option (Sought Interval) → Option Interval
row_of o = option_flatten (option_map (λ s. s.row) o)

open_is : (rows : List (Option Interval)) (k : Numbers) (o : Option Interval) → o ≡ lookup carried rows k → open_at (interval_rows rows) k ≡ option_map interval_says o
open_is rows k o e = lookup_mapped carried interval_named interval_says (λ r. refl) rows k ∙ ap (option_map interval_says) (sym e)

none_answers : (rows : List (Option Interval)) (k : Numbers) → None ≡ lookup carried rows k → 4 ≡ first_met (if_open (open_at (interval_rows rows) k) (λ _. []))
none_answers rows k e = ap (λ o. first_met (if_open o (λ _. []))) (sym (open_is rows k None e))

pub returns-in_err-sought-clause-answer : goal.returns-in_err-sought-clause-answer
returns-in_err-sought-clause-answer c =
    let k = interval_key c.args.half_hour.day c.args.half_hour.interval in
    let nothing : c.seek.result ≡ None = search rules in
    let e : c.in_err-sought.field-0.0 ≡ NotOpen = search rules in
    handed_on c.from_residual.result c.in_err-sought.field-0.0 c.from_residual.ensures.1 ∙ ap refusal_number e ∙ none_answers c.args.intervals.now k (ap row_of (sym nothing) ∙ c.seek.ensures.row)

pub returns-in_err-row-clause-answer : goal.returns-in_err-row-clause-answer
returns-in_err-row-clause-answer c =
    let k = interval_key c.args.half_hour.day c.args.half_hour.interval in
    let at : c.seek.result ≡ Some c.in_ok-sought.sought = search rules in
    let vacant : c.in_ok-sought.sought.row ≡ None = search rules in
    let e : c.in_err-row.field-0.0 ≡ NotOpen = search rules in
    handed_on c.from_residual-in_err-row.result c.in_err-row.field-0.0 c.from_residual-in_err-row.ensures.1 ∙ ap refusal_number e ∙ none_answers c.args.intervals.now k (sym vacant ∙ ap row_of (sym at) ∙ c.seek.ensures.row)

pub returns : goal.returns
returns c =
    let rows = c.args.intervals.now in
    let k = interval_key c.args.half_hour.day c.args.half_hour.interval in
    let at : c.seek.result ≡ Some c.in_ok-sought.sought = search rules in
    let row : c.in_ok-sought.sought.row ≡ Some c.in_ok-row.row = search rules in
    let found = open_is rows k (Some c.in_ok-row.row) (sym row ∙ ap row_of (sym at) ∙ c.seek.ensures.row) in
    record {
      answer = ap (λ o. first_met (if_open o (λ _. []))) (sym found);
      found = found;
      writes =
          λ i e. written_mapped carried interval_named interval_says (λ r. refl) rows c.in_ok-sought.sought.index i
          (ap (place carried rows) e ∙ sym c.seek.ensures.place ∙ ap (option_map (λ (s : Sought Interval). s.index)) at);
    }
