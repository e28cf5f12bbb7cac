use Rattle.std.proofs.Common.{◌≡◌, suc, ◌<◌, length, get_or, None, subst, arith, rules}
use Rattle.std.specs.Option.{option_map}
use Rattle.std.proofs.lemmas.List.{get_or-replicate, get_or_default}
use Rattle.figures.specs.Meaning.{injection_of, numbered}
use Rattle.figures.specs.Working.{Totalled, nothing_injected}
use Rattle.figures.proofs.Gathered.{far_in_range, totalled_none, totalled_more, totalled_roomy}
use Rattle.figures.proofs.injected.account_totals.Goals as goal

pub loop-facility-init : goal.loop-facility-init
loop-facility-init g c k h = rw (get_or-replicate 96 k nothing_injected nothing_injected h) (totalled_none _ (suc k))

pub add_facility-requires : goal.add_facility-requires
add_facility-requires g c =
    (omega arith, λ k h. totalled_roomy _ (λ n. far_in_range (numbered c.args.facilities.now n)) c.loop-facility.facility-index (suc k) _ (omega arith) (c.loop-facility.invariant k h))

pub loop-facility-preserved : goal.loop-facility-preserved
loop-facility-preserved g c k h =
    let facilities = c.args.facilities.now in
    let lt : c.loop-facility.facility-index < length facilities = search rules in
    totalled_more _ c.loop-facility.facility-index (suc k) (get_or c.loop-facility.all k nothing_injected) _ (c.loop-facility.invariant k h) (rw (get_or_default facilities c.loop-facility.facility-index None c.facility-item.result lt) (c.add_facility.ensures k h))

pub returns : goal.returns
returns g c k h =
    let end : c.loop-facility.facility-index ≡ 128 = omega arith in
    subst (λ n. Totalled (λ m. option_map injection_of (numbered c.args.facilities.now m)) n (suc k) (get_or c.loop-facility.all k nothing_injected)) end (c.loop-facility.invariant k h)
