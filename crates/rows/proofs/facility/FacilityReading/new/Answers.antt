use Rattle.std.proofs.Common.{sym, refl, arith, rules}
use Rattle.std.proofs.lemmas.Int.{ints}
use Rattle.std.proofs.lemmas.Bool.{and_from}
use Rattle.units.proofs.Told.{told}
use Rattle.units.specs.Ranges.{account_range, facility_range, injection_range, price_range}
use Rattle.rows.proofs.facility.FacilityReading.new.Goals as goal

pub invariant_of-result : goal.invariant_of-result
invariant_of-result c = record {
  facility_ok = omega (arith, ints, c.in_ok-facility.ensures.made.1);
  account_ok = omega (arith, ints, c.in_ok-account.ensures.made.1);
  mep_ok = omega (arith, ints, c.in_ok-take.ensures.made.1);
  ieq_ok = search rules;
}

pub returns : goal.returns
returns c = record {
  made = (
    refl,
    omega (arith, ints, c.in_ok-facility.ensures.made),
    omega (arith, ints, c.in_ok-account.ensures.made),
    omega (arith, ints, c.in_ok-take.ensures.made),
    search rules,
  );
  accepts =
      sym (and_from _ _
      (and_from _ _
      (and_from _ _ (told facility_range c.args.facility _ c.ranges.facility c.in_ok-facility.ensures.accepts) (told account_range c.args.account _ c.ranges.account c.in_ok-account.ensures.accepts))
      (told price_range c.args.mep _ c.ranges.mep c.in_ok-take.ensures.accepts))
      (told injection_range c.args.ieq _ c.ranges.ieq c.in_ok-ieq.ensures.accepts));
}
