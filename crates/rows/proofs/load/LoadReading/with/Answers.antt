use Rattle.std.proofs.Common.{◌≡◌, pos, rules}
use Rattle.rows.specs.Values.{corrected}
use Rattle.rows.proofs.Values.{corrected_within}
use Rattle.rows.proofs.load.LoadReading.with.Goals as goal

pub invariant_of-self : goal.invariant_of-self
invariant_of-self c =
    let l = c.args.self in
    let o = c.args.other.now in
    let k = c.args.correction in
    let e : c.with-self.result ≡ corrected k l.weq o.weq.base = search rules in
    let f : c.with-self-2.result ≡ corrected k l.wfq o.wfq.base = search rules in record {
      account_ok = l.account_ok;
      weq_ok = corrected_within (pos 0) (pos 10000000) k l.weq c.with-self.result o.weq.base e l.weq_ok o.weq_ok.0;
      wfq_ok = corrected_within (pos 0) (pos 10000000) k l.wfq c.with-self-2.result o.wfq.base f l.wfq_ok o.wfq_ok.0;
    }
