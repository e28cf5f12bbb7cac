use Rattle.std.proofs.Common.{not, [], ◌∷◌, nat_abs, refl, ap, ◌∙◌}
use Rattle.units.specs.Checks.{first_met}
use Rattle.register.specs.Keys.{Numbers}
use Rattle.rows.specs.Meaning.{contract_named, contract_rows, contract_says, interval_rows}
use Rattle.rows.specs.declared.contract.ContractRow.{ContractRow}
use Rattle.house.specs.Calls.{contract_given, is_contract}
use Rattle.house.specs.Open.{check}
use Rattle.house.specs.Rows.{agreed_checks}
use Rattle.house.proofs.Answering.{handed_on, stops}
use Rattle.house.proofs.Plans.{past_range}
use Rattle.house.proofs.Terms.{agreed_mapped, put_mapped}
use Rattle.house.proofs.agreed.take_contract.Goals as goal

abbrev carried : ContractRow → Numbers
carried r = (contract_says r).key

pub returns-in_err-row-clause-answer : goal.returns-in_err-row-clause-answer
returns-in_err-row-clause-answer c =
    let call = c.args.call.now in
    let e = c.in_err-row.field-0.0 in
    handed_on c.from_residual.result e c.from_residual.ensures.1
    ∙ stops e (check 1 (not (is_contract call)) ∷ []) (agreed_checks contract_named (nat_abs call.seller) (nat_abs call.buyer) (contract_given call) (interval_rows c.args.intervals.now) (contract_rows c.args.contracts.now)) c.in_err-row.ensures.answer

pub returns : goal.returns
returns c =
    let call = c.args.call.now in
    let is = interval_rows c.args.intervals.now in
    let rows = c.args.contracts.now in
    let r = c.in_ok-row.row in
    let given = c.in_ok-row.ensures.row in
    record {
      answer =
          c.agree.ensures.answer
          ∙ agreed_mapped carried contract_named contract_says (λ x. refl) r.seller r.buyer r is rows
          ∙ ap (λ s. first_met (agreed_checks contract_named (s.terms.seller) (s.terms.buyer) s is (contract_rows rows))) given
          ∙ past_range (not (is_contract call)) (agreed_checks contract_named (nat_abs call.seller) (nat_abs call.buyer) (contract_given call) is (contract_rows rows)) c.in_ok-row.ensures.answer;
      contracts = put_mapped carried contract_named contract_says (λ x. refl) rows _ r (contract_given call) given c.agree.result c.agree.ensures.rows;
    }
