use Rattle.std.proofs.Common.{ap, ◌∙◌}
use Rattle.rows.specs.Meaning.{interval_rows}
use Rattle.statement.proofs.Lines.{begin_alike}
use Rattle.statement.proofs.preliminary.write_preliminary.Goals as goal

pub returns : goal.returns
returns c =
    let plan = c.in_ok-plan.ensures in
    record {
      answer = plan.answer;
      intervals = ap interval_rows c.write.ensures ∙ plan.intervals;
      lines = record {
        written = λ i e. begin_alike _ c.in_ok-plan.plan.figures.lines c.write_lines.new.lines c.write_lines.ensures.first (plan.figures i e).lines;
        beyond = c.write_lines.ensures.beyond;
      };
      statement = record { house = c.number.ensures; half_hour = plan.half_hour };
    }
