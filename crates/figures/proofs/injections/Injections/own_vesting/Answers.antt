use Rattle.std.proofs.Common.{◌≡◌, ℕ, suc, ◌<◌, length, get_or, ℤ, ◌+ℤ◌, ap, ◌∙◌, rules}
use Rattle.std.specs.Option.{option_map}
use Rattle.std.proofs.lemmas.List.{get_or_default}
use Rattle.formulas.specs.Figures.{vcrp_of, from_vesting, own_vcsc_of}
use Rattle.figures.specs.Meaning.{basis_of, no_tranches, tranche, vested_of}
use Rattle.records.specs.declared.inputs.Inputs.{Inputs}
use Rattle.records.specs.declared.inputs.Tranches.{Tranches}
use Rattle.figures.proofs.Gathered.{inputs_in_ranges, total_vcrp, totalled_priced}
use Rattle.figures.proofs.injections.Injections.own_vesting.Goals as goal

pub reference_price-reference-requires : goal.reference_price-reference-requires
reference_price-reference-requires c = totalled_priced (basis_of c.args.self.now.inputs.now) (inputs_in_ranges c.args.self.now.inputs.now) (suc c.args.k) _ (c.args.self.now.totalled c.args.k c.requires)

pub from_tranches-requires : goal.from_tranches-requires
from_tranches-requires c =
    rw c.reference_price-reference.ensures (totalled_priced (basis_of c.args.self.now.inputs.now) (inputs_in_ranges c.args.self.now.inputs.now) (suc c.args.k) _ (c.args.self.now.totalled c.args.k c.requires)).price

-- what the account's tranches pay, as the code holds them
paid : (i : Inputs) (k : ℕ) (p r : ℤ) (t : Tranches) → k < length i.vestings → p ≡ vcrp_of (basis_of i) (suc k)
    → r ≡ from_vesting p (option_map vested_of (tranche (get_or i.vestings k t) 0)) +ℤ from_vesting p (option_map vested_of (tranche (get_or i.vestings k t) 1)) +ℤ from_vesting p (option_map vested_of (tranche (get_or i.vestings k t) 2))
    → r ≡ own_vcsc_of (basis_of i) (suc k)
unfolding own_vcsc_of
paid i k p r t lt price e =
    e ∙ ap (λ s. from_vesting p (option_map vested_of (tranche s 0)) +ℤ from_vesting p (option_map vested_of (tranche s 1)) +ℤ from_vesting p (option_map vested_of (tranche s 2))) (get_or_default i.vestings k t no_tranches lt)
    ∙ ap (λ q. from_vesting q (option_map vested_of (tranche (get_or i.vestings k no_tranches) 0)) +ℤ from_vesting q (option_map vested_of (tranche (get_or i.vestings k no_tranches) 1)) +ℤ from_vesting q (option_map vested_of (tranche (get_or i.vestings k no_tranches) 2))) price

pub returns : goal.returns
returns c =
    let i = c.args.self.now.inputs.now in
    let price = c.reference_price-reference.ensures ∙ total_vcrp (basis_of i) (suc c.args.k) _ (c.args.self.now.totalled c.args.k c.requires) in
    let within : c.args.k < length i.vestings = search rules in
    paid i c.args.k _ _ c.index-inputs-k.result within price c.from_tranches.ensures
