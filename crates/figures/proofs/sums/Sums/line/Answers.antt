use Rattle.std.proofs.Common.{add-one, arith, rules}
use Rattle.figures.proofs.Written.{net_around, net_is, six_around, six_at}
use Rattle.figures.proofs.sums.Sums.line.Goals as goal

pub net-nasc-requires : goal.net-nasc-requires
net-nasc-requires c =
    let six = six_at c.args.self.now c.args.k _ _ _ _ c.requires.place (search rules) c.withdrawn.ensures.value c.at-lesd.ensures c.requires.share in
    let b = six_around c.args.self.now.injections.inputs.now c.args.k c.requires.place _ _ _ _ _ _ six in
    record { gesc = b.0; lesd = b.1; bsc = b.2; vcsc = b.3; fee = b.4; heuc = b.5 }

pub invariant_of-result : goal.invariant_of-result
invariant_of-result c =
    let six = six_at c.args.self.now c.args.k _ _ _ _ c.requires.place (search rules) c.withdrawn.ensures.value c.at-lesd.ensures c.requires.share in
    let b = six_around c.args.self.now.injections.inputs.now c.args.k c.requires.place _ _ _ _ _ _ six in record {
      account_ok = omega (arith, c.requires.place);
      gesc_ok = b.0;
      lesd_ok = b.1;
      bsc_ok = b.2;
      vcsc_ok = b.3;
      fee_ok = b.4;
      heuc_ok = b.5;
      nasc_ok = net_around c.args.self.now.injections.inputs.now c.args.k c.requires.place _ _ _ _ _ _ six _ c.net-nasc.ensures;
    }

pub returns : goal.returns
returns c =
    let six = six_at c.args.self.now c.args.k _ _ _ _ c.requires.place (search rules) c.withdrawn.ensures.value c.at-lesd.ensures c.requires.share in
    record { account = add-one c.args.k; gesc = six.gesc; lesd = six.lesd; bsc = six.bsc; vcsc = six.vcsc; fee = six.fee; heuc = six.heuc; nasc = net_is c.args.self.now.injections.inputs.now c.args.k c.requires.place _ _ _ _ _ _ six _ c.net-nasc.ensures }
