use Rattle.std.proofs.Common.{◌≡◌, ◌<◌, length, ◌+ℤ◌, None, sym, ap, ◌∙◌, arith, rules}
use Rattle.std.specs.Option.{option_map}
use Rattle.std.proofs.lemmas.List.{get_or_default}
use Rattle.std.proofs.lemmas.Int.{ints}
use Rattle.formulas.specs.Basis.{contracts}
use Rattle.formulas.specs.Figures.{bsc_of, from_contract}
use Rattle.figures.specs.Meaning.{amount_at, basis_of, bilateral_of}
use Rattle.formulas.specs.Sums.{sum}
use Rattle.figures.proofs.Balanced.{amount_none}
use Rattle.formulas.proofs.Bounds.{contract_around}
use Rattle.figures.proofs.Gathered.{inputs_in_ranges}
use Rattle.formulas.proofs.Steps.{sum_step}
use Rattle.formulas.proofs.Sums.{sum_none, sum_within}
use Rattle.figures.proofs.injections.Injections.contract_sums.Goals as goal

pub loop-contract-init : goal.loop-contract-init
loop-contract-init c a ok = amount_none a ok ∙ sym (sum_none _)

pub add_contract-requires : goal.add_contract-requires
add_contract-requires c =
    let i = c.args.self.now.inputs.now in
    let ok = inputs_in_ranges i in
    λ a k.
    let bound = sum_within c.loop-contract.contract-index 1300000000000000 _ (λ m _ _. contract_around (basis_of i) ok a ((basis_of i).contract m) (ok.contract m)) in
    omega (arith, ints, c.loop-contract.invariant a k)

pub loop-contract-preserved : goal.loop-contract-preserved
loop-contract-preserved c a ok =
    let i = c.args.self.now.inputs.now in
    let lt : c.loop-contract.contract-index < length i.contracts = search rules in
    let read = get_or_default i.contracts c.loop-contract.contract-index c.contract-item.result None lt in
    sum_step c.loop-contract.contract-index (λ m. from_contract (basis_of i) a ((basis_of i).contract m)) (amount_at c.loop-contract.amounts a) _ (c.loop-contract.invariant a ok)
    (c.add_contract.ensures a ok ∙ ap (λ o. amount_at c.loop-contract.amounts a +ℤ from_contract (basis_of i) a (option_map bilateral_of o)) read)

pub returns : goal.returns
unfolding bsc_of
returns c a ok = let end : c.loop-contract.contract-index ≡ contracts = omega arith in c.loop-contract.invariant a ok ∙ ap (λ n. sum n (λ m. from_contract (basis_of c.args.self.now.inputs.now) a ((basis_of c.args.self.now.inputs.now).contract m))) end
