use Rattle.std.proofs.Common.{is_ok, sym, refl, ap, ◌∙◌, arith}
use Rattle.std.proofs.lemmas.Result.{err_from_is_err_and}
use Rattle.std.proofs.lemmas.Int.{ints}
use Rattle.std.proofs.lemmas.Bool.{and_from, and_left, and_right}
use Rattle.units.proofs.Told.{told}
use Rattle.units.specs.Ranges.{account_range, contract_range, fraction_range, quantity_range}
use Rattle.rows.proofs.contract.ContractRow.new.Goals as goal

pub returns-in_err-take-clause-accepts : goal.returns-in_err-take-clause-accepts
returns-in_err-take-clause-accepts c =
    let p = err_from_is_err_and c.from_residual-in_err-take.result c.from_residual-in_err-take.ensures.1 in
    ap is_ok p.1 ∙ sym (and_left _ _ (and_left _ _ (and_right _ _ (told quantity_range c.args.baq _ c.ranges.baq c.in_err-take.ensures.accepts))))

pub returns-in_err-bwf-clause-accepts : goal.returns-in_err-bwf-clause-accepts
returns-in_err-bwf-clause-accepts c =
    let p = err_from_is_err_and c.from_residual-in_err-bwf.result c.from_residual-in_err-bwf.ensures.1 in
    ap is_ok p.1 ∙ sym (and_left _ _ (and_right _ _ (told fraction_range c.args.bwf _ c.ranges.bwf c.in_err-bwf.ensures.accepts)))

pub returns-in_err-bif-clause-accepts : goal.returns-in_err-bif-clause-accepts
returns-in_err-bif-clause-accepts c =
    let p = err_from_is_err_and c.from_residual-in_err-bif.result c.from_residual-in_err-bif.ensures.1 in
    ap is_ok p.1 ∙ sym (and_right _ _ (told fraction_range c.args.bif _ c.ranges.bif c.in_err-bif.ensures.accepts))

pub invariant_of-result : goal.invariant_of-result
invariant_of-result c = record {
  contract_ok = omega (arith, ints, c.in_ok-contract.ensures.made.1);
  seller_ok = omega (arith, ints, c.in_ok-seller.ensures.made.1);
  buyer_ok = omega (arith, ints, c.in_ok-buyer.ensures.made.1);
  baq_ok = omega (arith, ints, c.in_ok-take.ensures.made.1);
  bwf_ok = omega (arith, ints, c.in_ok-bwf.ensures.made.1);
  bif_ok = omega (arith, ints, c.in_ok-bif.ensures.made.1);
}

pub returns : goal.returns
returns c = record {
  made = (
    refl,
    omega (arith, ints, c.in_ok-contract.ensures.made),
    omega (arith, ints, c.in_ok-seller.ensures.made),
    omega (arith, ints, c.in_ok-buyer.ensures.made),
    omega (arith, ints, c.in_ok-take.ensures.made),
    omega (arith, ints, c.in_ok-bwf.ensures.made),
    omega (arith, ints, c.in_ok-bif.ensures.made),
  );
  accepts =
      sym (and_from _ _
      (and_from _ _
      (and_from _ _
      (and_from _ _
      (and_from _ _ (told contract_range c.args.contract _ c.ranges.contract c.in_ok-contract.ensures.accepts) (told account_range c.args.seller _ c.ranges.seller c.in_ok-seller.ensures.accepts))
      (told account_range c.args.buyer _ c.ranges.buyer c.in_ok-buyer.ensures.accepts))
      (told quantity_range c.args.baq _ c.ranges.baq c.in_ok-take.ensures.accepts))
      (told fraction_range c.args.bwf _ c.ranges.bwf c.in_ok-bwf.ensures.accepts))
      (told fraction_range c.args.bif _ c.ranges.bif c.in_ok-bif.ensures.accepts));
}
