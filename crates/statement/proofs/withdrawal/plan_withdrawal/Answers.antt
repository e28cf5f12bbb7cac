use Rattle.std.proofs.Common.{◌≡◌, Some, sym, ap, ◌∙◌}
use Rattle.std.specs.Option.{option_map}
use Rattle.register.proofs.Rows.{lookup_carries}
use Rattle.rows.specs.Meaning.{interval_named, interval_rows, interval_says}
use Rattle.rows.specs.declared.interval.Interval.{Interval}
use Rattle.rows.specs.declared.phase.Phase.TheVariants.{Reading}
use Rattle.house.specs.Open.{open_at, put_row}
use Rattle.house.specs.State.{key_of}
use Rattle.statement.specs.Statements.{reading_again}
use Rattle.statement.proofs.withdrawal.plan_withdrawal.Goals as goal

-- an interval that is read again
again_is : (i j : Interval) → j.half_hour ≡ i.half_hour → j.usep ≡ i.usep → j.rate ≡ i.rate → j.uplift ≡ i.uplift → j.phase ≡ Reading → j.last ≡ i.last → interval_says j ≡ reading_again (interval_says i)
again_is i j h u r l q t = cc

pub returns : goal.returns
returns c =
    let is = interval_rows c.args.intervals.now in
    let s = c.args.statement.now in
    let opened = c.in_ok-opened.opened.row in
    let i = interval_says opened in
    let found : open_at is (key_of s.half_hour) ≡ Some i = c.in_ok-opened.ensures.found in
    let moved = c.moved-row.result in
    let kept = c.moved-row.ensures.kept in
    record {
      answer = c.in_ok-opened.ensures.answer;
      intervals =
          c.in_ok-opened.ensures.writes moved (ap key_of kept.0 ∙ lookup_carries interval_named is (key_of s.half_hour) i found)
          ∙ ap (λ j. put_row interval_named is (Some j)) (again_is opened moved kept.0 kept.1 kept.2 kept.3 c.moved-row.ensures.phase c.moved-row.ensures.last)
          ∙ ap (λ o. put_row interval_named is (option_map reading_again o)) (sym found);
    }
