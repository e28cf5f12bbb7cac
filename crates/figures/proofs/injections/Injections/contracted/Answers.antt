use Rattle.std.proofs.Common.{◌≡◌, suc, ◌-◌, ◌<◌, List, length, get_or, ℤ, pos, ◌+ℤ◌, None, Option, ap, ◌∙◌, arith, rules}
use Rattle.std.specs.Option.{option_map}
use Rattle.std.proofs.lemmas.List.{get_or_default}
use Rattle.std.proofs.lemmas.Int.{ints}
use Rattle.units.specs.Ranges.{Within}
use Rattle.formulas.specs.Basis.{of_load}
use Rattle.formulas.specs.Figures.{beq_of, ieq_of, weq_of, at_least_0, part}
use Rattle.figures.specs.Meaning.{basis_of, bilateral_of, withdrawal_of}
use Rattle.figures.specs.Working.{AllTotalled, nothing_injected}
use Rattle.figures.specs.declared.injected.Injected.{Injected}
use Rattle.records.specs.declared.inputs.Inputs.{Inputs}
use Rattle.records.specs.declared.entries.Contract.{Contract}
use Rattle.records.specs.declared.entries.LoadWithin.{LoadWithin}
use Rattle.formulas.proofs.Bounds.{summed_ieq_around, weq_up_to, at_least_0_up_to, part_up_to}
use Rattle.figures.proofs.Gathered.{weq_at, inputs_in_ranges, total_ieq, totalled_at}
use Rattle.figures.proofs.injections.Injections.contracted.Goals as goal

-- what the seller injected, as the totals have it
sold_of : (c : goal.After-positive) → c.positive.result.0 ≡ at_least_0 (ieq_of (basis_of c.args.self.now.inputs.now) c.args.contract.now.seller)
sold_of c = c.positive.ensures ∙ ap at_least_0 (total_ieq _ _ _ (totalled_at _ _ _ c.args.self.now.totalled c.args.contract.now.seller_ok))

pub hundredths_of-sold-requires : goal.hundredths_of-sold-requires
hundredths_of-sold-requires c =
    let within : Within (pos 0) (pos 1280000000) c.positive.result.0 = rw (sold_of c) (at_least_0_up_to _ _ (summed_ieq_around _ (inputs_in_ranges c.args.self.now.inputs.now) c.args.contract.now.seller)) in
    record { fraction = c.args.contract.now.bif_ok; quantity = omega (arith, ints) }

-- the parts of a contract's energy, and their sum
parts : (i : Inputs) (xs : List Injected) (k : Contract) (o : Option (LoadWithin 0)) (drawn bought made sold : ℤ) → AllTotalled (basis_of i).facility xs → k.buyer - 1 < length i.loads
    → drawn ≡ of_load (λ l. l.weq) (option_map withdrawal_of (get_or i.loads (k.buyer - 1) o)) → bought ≡ part k.bwf drawn
    → made ≡ at_least_0 (get_or xs (k.seller - 1) nothing_injected).ieq.0 → sold ≡ part k.bif made
    → Within (pos 0) (pos 10000000) bought × Within (pos 0) (pos 1280000000) sold × (k.baq.0 +ℤ bought +ℤ sold ≡ beq_of (basis_of i) (bilateral_of k))
unfolding beq_of
parts i xs k o drawn bought made sold t lt d b m s =
    let at : get_or i.loads (k.buyer - 1) o ≡ get_or i.loads (k.buyer - 1) None = get_or_default i.loads (k.buyer - 1) o None lt in
    let next : suc (k.buyer - 1) ≡ k.buyer = omega (arith, k.buyer_ok.0) in
    let drawn-is : drawn ≡ weq_of (basis_of i) k.buyer = d ∙ ap (λ l. of_load (λ l. l.weq) (option_map withdrawal_of l)) at ∙ weq_at i (k.buyer - 1) ∙ ap (weq_of (basis_of i)) next in
    let made-is : made ≡ at_least_0 (ieq_of (basis_of i) k.seller) = m ∙ ap at_least_0 (total_ieq _ _ _ (totalled_at _ _ _ t k.seller_ok)) in
    let bought-is : bought ≡ part k.bwf (weq_of (basis_of i) k.buyer) = b ∙ ap (part k.bwf) drawn-is in
    let sold-is : sold ≡ part k.bif (at_least_0 (ieq_of (basis_of i) k.seller)) = s ∙ ap (part k.bif) made-is in
    let ok = inputs_in_ranges i in (
      rw bought-is (part_up_to _ k.bwf _ k.bwf_ok (weq_up_to _ ok k.buyer)),
      rw sold-is (part_up_to _ k.bif _ k.bif_ok (at_least_0_up_to _ _ (summed_ieq_around _ ok k.seller))),
      ap (λ z. k.baq.0 +ℤ z +ℤ sold) bought-is ∙ ap (λ z. k.baq.0 +ℤ part k.bwf (weq_of (basis_of i) k.buyer) +ℤ z) sold-is,
    )

pub sum_of-requires : goal.sum_of-requires
sum_of-requires c =
    let lt : c.args.contract.now.buyer - 1 < length c.args.self.now.inputs.now.loads = search rules in
    let p = parts c.args.self.now.inputs.now c.args.self.now.injected c.args.contract.now _ _ _ _ _ c.args.self.now.totalled lt c.withdrawn.ensures.value c.hundredths_of-bought.ensures c.positive.ensures c.hundredths_of-sold.ensures in
    omega (arith, ints, c.args.contract.now.baq_ok)

pub returns : goal.returns
returns c =
    let lt : c.args.contract.now.buyer - 1 < length c.args.self.now.inputs.now.loads = search rules in
    let p = parts c.args.self.now.inputs.now c.args.self.now.injected c.args.contract.now _ _ _ _ _ c.args.self.now.totalled lt c.withdrawn.ensures.value c.hundredths_of-bought.ensures c.positive.ensures c.hundredths_of-sold.ensures in
    c.sum_of.ensures ∙ p.2
