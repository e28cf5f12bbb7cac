use Rattle.std.proofs.Common.{ℕ, not, List, [], ◌∷◌, nat_abs, refl, ap, ◌∙◌}
use Rattle.units.specs.Checks.{first_met}
use Rattle.register.specs.Keys.{Numbers}
use Rattle.rows.specs.Meaning.{vesting_named, vesting_rows, vesting_says, interval_rows}
use Rattle.rows.specs.declared.vesting.VestingRow.{VestingRow}
use Rattle.house.specs.Calls.{vesting_given, is_vesting}
use Rattle.house.specs.Open.{check}
use Rattle.house.specs.Rows.{agreed_checks}
use Rattle.house.proofs.Answering.{handed_on, stops}
use Rattle.house.proofs.Plans.{past_range}
use Rattle.house.proofs.Terms.{agreed_mapped, put_mapped}
use Rattle.house.proofs.state.House.take_vesting.Goals as goal

abbrev carried : VestingRow → Numbers
carried r = (vesting_says r).key

-- the account of a vesting row's key
abbrev account_in : List ℕ → ℕ
account_in [] = 0
account_in (a ∷ more) = a

pub returns-in_err-row-clause-answer : goal.returns-in_err-row-clause-answer
returns-in_err-row-clause-answer c =
    let call = c.args.call.now in
    let counterparty = c.args.self.now.opening.counterparty in
    let e = c.in_err-row.field-0.0 in
    handed_on c.from_residual.result e c.from_residual.ensures.1
    ∙ stops e (check 1 (not (is_vesting call)) ∷ []) (agreed_checks vesting_named (nat_abs call.account) counterparty (vesting_given call) (interval_rows c.args.intervals.now) (vesting_rows c.args.vestings.now)) c.in_err-row.ensures.answer

pub returns : goal.returns
returns c =
    let call = c.args.call.now in
    let counterparty = c.args.self.now.opening.counterparty in
    let is = interval_rows c.args.intervals.now in
    let rows = c.args.vestings.now in
    let r = c.in_ok-row.row in
    let given = c.in_ok-row.ensures.row in
    record {
      answer =
          c.agree.ensures.answer
          ∙ agreed_mapped carried vesting_named vesting_says (λ x. refl) r.key.account counterparty r is rows
          ∙ ap (λ s. first_met (agreed_checks vesting_named (account_in s.key.more) (counterparty) s is (vesting_rows rows))) given
          ∙ past_range (not (is_vesting call)) (agreed_checks vesting_named (nat_abs call.account) counterparty (vesting_given call) is (vesting_rows rows)) c.in_ok-row.ensures.answer;
      vestings = put_mapped carried vesting_named vesting_says (λ x. refl) rows _ r (vesting_given call) given c.agree.result c.agree.ensures.rows;
    }
