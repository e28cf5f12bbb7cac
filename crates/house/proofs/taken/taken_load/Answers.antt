use Rattle.std.proofs.Common.{ap, ◌∙◌, rules}
use Rattle.units.specs.Refusals.{refusal_number}
use Rattle.house.specs.Calls.{is_load}
use Rattle.house.proofs.Answering.{handed_on, outside, within}
use Rattle.house.proofs.taken.taken_load.Goals as goal

pub returns-in_err-row-clause-answer : goal.returns-in_err-row-clause-answer
returns-in_err-row-clause-answer c =
    handed_on c.from_residual-in_err-row.result c.in_err-row.field-0.0 c.from_residual-in_err-row.ensures.1 ∙ ap refusal_number c.in_err-row.ensures.made ∙ outside (is_load c.args.call.now) (search rules)

pub returns-in_err-stamp-clause-answer : goal.returns-in_err-stamp-clause-answer
returns-in_err-stamp-clause-answer c =
    handed_on c.from_residual-in_err-stamp.result c.in_err-stamp.field-0.0 c.from_residual-in_err-stamp.ensures.1 ∙ ap refusal_number c.in_err-stamp.ensures.made ∙ outside (is_load c.args.call.now) (search rules)

pub returns-clause-answer : goal.returns-clause-answer
returns-clause-answer c = within (is_load c.args.call.now) (search rules)
