use Rattle.std.proofs.Common.{is_ok, sym, ap, ◌∙◌, arith, rules}
use Rattle.std.proofs.lemmas.Result.{err_from_is_err_and}
use Rattle.std.proofs.lemmas.Int.{ints}
use Rattle.std.proofs.lemmas.Bool.{and_from, and_right}
use Rattle.units.specs.Ranges.{account_range, price_range, rate_range}
use Rattle.units.proofs.Told.{told}
use Rattle.records.proofs.inputs.Terms.new.Goals as goal

pub returns-in_err-operator : goal.returns-in_err-operator
returns-in_err-operator c =
    let p = err_from_is_err_and c.from_residual-in_err-operator.result c.from_residual-in_err-operator.ensures.1 in
    record { made = search rules; accepts = ap is_ok p.1 ∙ sym (and_right _ _ (told account_range c.args.operator _ c.ranges.operator c.in_err-operator.ensures.accepts)) }

pub invariant_of-result : goal.invariant_of-result
invariant_of-result c = record {
  usep_ok = omega (arith, ints, c.in_ok-take.ensures.made.1);
  rate_ok = omega (arith, ints, c.in_ok-take-2.ensures.made.1);
  counterparty_ok = omega (arith, ints, c.in_ok-counterparty.ensures.made.1);
  operator_ok = omega (arith, ints, c.in_ok-operator.ensures.made.1);
  pending_ok = omega (arith, ints);
}

pub returns : goal.returns
returns c = record {
  made = (
    omega (arith, ints, c.in_ok-take.ensures.made),
    omega (arith, ints, c.in_ok-take-2.ensures.made),
    omega (arith, ints, c.in_ok-counterparty.ensures.made),
    omega (arith, ints, c.in_ok-operator.ensures.made),
    omega (arith, ints),
  );
  accepts =
      sym (and_from _ _
      (and_from _ _ (and_from _ _ (told price_range c.args.usep _ c.ranges.usep c.in_ok-take.ensures.accepts) (told rate_range c.args.rate _ c.ranges.rate c.in_ok-take-2.ensures.accepts))
      (told account_range c.args.counterparty _ c.ranges.counterparty c.in_ok-counterparty.ensures.accepts))
      (told account_range c.args.operator _ c.ranges.operator c.in_ok-operator.ensures.accepts));
}
