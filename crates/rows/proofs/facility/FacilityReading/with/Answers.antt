use Rattle.std.proofs.Common.{◌≡◌, pos, neg_ℤ, rules}
use Rattle.rows.specs.Values.{corrected}
use Rattle.rows.proofs.Values.{corrected_within}
use Rattle.rows.proofs.facility.FacilityReading.with.Goals as goal

pub invariant_of-self-clause-ieq_ok : goal.invariant_of-self-clause-ieq_ok
invariant_of-self-clause-ieq_ok c =
    let r = c.args.self in
    let o = c.args.other.now in
    let e : c.with-self.result ≡ corrected c.args.correction r.ieq o.ieq.base = search rules in
    corrected_within (neg_ℤ (pos 10000000)) (pos 10000000) c.args.correction r.ieq c.with-self.result o.ieq.base e r.ieq_ok o.ieq_ok.0
