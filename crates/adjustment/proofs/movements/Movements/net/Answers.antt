use Rattle.std.proofs.Common.{◌≡◌, suc, ◌<◌, length, get_or, ◌+ℤ◌, ◌-ℤ◌, ◌*ℤ◌, ap, ◌∙◌, arith, rules}
use Rattle.std.proofs.lemmas.Int.{ints}
use Rattle.units.specs.Ranges.{Around}
use Rattle.formulas.specs.Adjustment.{rate_of}
use Rattle.formulas.specs.Basis.{facilities}
use Rattle.formulas.proofs.Bounds.{product_around}
use Rattle.records.specs.Meaning.{numbered}
use Rattle.records.specs.Moved.{moves_of}
use Rattle.figures.proofs.Gathered.{far_in_range, gesc_upto, ieq_upto}
use Rattle.figures.specs.Working.{nothing_injected}
use Rattle.adjustment.proofs.Moving.{load_at, net_is}
use Rattle.adjustment.proofs.movements.Movements.net.Goals as goal

pub less-requires : goal.less-requires
less-requires c =
    let d = c.args.self.now.differences.now in
    let a = suc c.args.k in
    let ieq : Around 2560000000 (get_or c.args.self.now.injected c.args.k nothing_injected).ieq.0 = omega (arith, ints, ieq_upto _ (λ n. far_in_range (numbered d.facilities n)) facilities a, (c.args.self.now.totalled c.args.k c.requires).ieq) in
    let fees = product_around 100000 2560000000 c.rate-rate.result.0 (get_or c.args.self.now.injected c.args.k nothing_injected).ieq.0 c.rate-rate.ensures.bound ieq in
    let paid = product_around 101000000 10000000 c.price-price.result.0 c.withdrawn.result.0 c.price-price.ensures.bound c.withdrawn.ensures.bound in
    let charged = product_around 100000 10000000 c.rate-rate.result.0 c.charged.result.0 c.rate-rate.ensures.bound c.charged.ensures.bound in
    record {
      earned = omega (arith, ints, gesc_upto _ (λ n. far_in_range (numbered d.facilities n)) facilities a, (c.args.self.now.totalled c.args.k c.requires).gesc);
      fees = omega (arith, ints, c.at-fees.ensures);
      paid = omega (arith, ints, c.at-paid.ensures);
      load_fees = omega (arith, ints, c.at-load_fees.ensures);
    }

pub returns : goal.returns
returns c =
    let d = c.args.self.now.differences.now in
    let m = moves_of d in
    let k = c.args.k in
    let lt : k < length d.loads = search rules in
    let rate = c.rate-rate.ensures.value in
    let weq = c.withdrawn.ensures.value ∙ load_at d (λ l. l.weq) k c.index-differences-k.result lt in
    let wfq = c.charged.ensures.value ∙ load_at d (λ l. l.wfq) k c.index-differences-k.result lt in
    let fees : c.at-fees.result.0 ≡ rate_of m (suc k) *ℤ (get_or c.args.self.now.injected c.args.k nothing_injected).ieq.0 = c.at-fees.ensures ∙ ap (λ r. r *ℤ (get_or c.args.self.now.injected c.args.k nothing_injected).ieq.0) rate in
    let paid : c.at-paid.result.0 ≡ (m.usep +ℤ m.uplift) *ℤ c.withdrawn.result.0 = c.at-paid.ensures ∙ ap (λ p. p *ℤ c.withdrawn.result.0) c.price-price.ensures.value in
    let charged : c.at-load_fees.result.0 ≡ rate_of m (suc k) *ℤ c.charged.result.0 = c.at-load_fees.ensures ∙ ap (λ r. r *ℤ c.charged.result.0) rate in
    record {
      value =
          c.less.ensures.value
          ∙ ap (λ x. (get_or c.args.self.now.injected c.args.k nothing_injected).gesc.0 -ℤ x -ℤ c.at-paid.result.0 -ℤ c.at-load_fees.result.0) fees
          ∙ ap (λ x. (get_or c.args.self.now.injected c.args.k nothing_injected).gesc.0 -ℤ rate_of m (suc k) *ℤ (get_or c.args.self.now.injected c.args.k nothing_injected).ieq.0 -ℤ x -ℤ c.at-load_fees.result.0) paid
          ∙ ap (λ x. (get_or c.args.self.now.injected c.args.k nothing_injected).gesc.0 -ℤ rate_of m (suc k) *ℤ (get_or c.args.self.now.injected c.args.k nothing_injected).ieq.0 -ℤ (m.usep +ℤ m.uplift) *ℤ c.withdrawn.result.0 -ℤ x) charged
          ∙ net_is m (suc k) _ _ _ _ (c.args.self.now.totalled c.args.k c.requires).gesc (c.args.self.now.totalled c.args.k c.requires).ieq weq wfq;
      bound = c.less.ensures.bound;
    }
