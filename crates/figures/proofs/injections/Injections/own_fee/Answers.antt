use Rattle.std.proofs.Common.{◌≡◌, ℕ, suc, ◌<◌, List, length, get_or, ℤ, ◌+ℤ◌, ◌*ℤ◌, None, Option, ap, ◌∙◌, arith, w64, SFits, to_z, of_z, rules}
use Rattle.std.specs.Option.{option_map}
use Rattle.std.proofs.lemmas.List.{get_or_default}
use Rattle.std.proofs.lemmas.Int.{ints}
use Rattle.units.specs.Ranges.{accounts}
use Rattle.formulas.specs.Basis.{of_load}
use Rattle.formulas.specs.Figures.{ieq_of, wfq_of, own_fee_of}
use Rattle.figures.specs.Meaning.{basis_of, withdrawal_of}
use Rattle.figures.specs.Working.{AllTotalled, nothing_injected}
use Rattle.figures.specs.declared.injected.Injected.{Injected}
use Rattle.records.specs.declared.inputs.Inputs.{Inputs}
use Rattle.records.specs.declared.entries.LoadWithin.{LoadWithin}
use Rattle.formulas.proofs.Bounds.{summed_ieq_around, wfq_up_to}
use Rattle.figures.proofs.Gathered.{wfq_at, inputs_in_ranges, total_ieq}
use Rattle.figures.proofs.injections.Injections.own_fee.Goals as goal

-- the energy on which an account pays fees, as the code holds it
energy : (i : Inputs) (xs : List Injected) (k : ℕ) (o : Option (LoadWithin 0)) (drawn : ℤ) → AllTotalled (basis_of i).facility xs → k < accounts → k < length i.loads
    → drawn ≡ of_load (λ l. l.wfq) (option_map withdrawal_of (get_or i.loads k o))
    → SFits w64 (to_z w64 (of_z w64 (get_or xs k nothing_injected).ieq.0) +ℤ to_z w64 (of_z w64 drawn))
    × (i.terms.rate.0 *ℤ to_z w64 (of_z w64 (to_z w64 (of_z w64 (get_or xs k nothing_injected).ieq.0) +ℤ to_z w64 (of_z w64 drawn))) ≡ own_fee_of (basis_of i) (suc k))
unfolding own_fee_of
energy i xs k o drawn t lt within e =
    let drawn-is : drawn ≡ wfq_of (basis_of i) (suc k) = e ∙ ap (λ l. of_load (λ l. l.wfq) (option_map withdrawal_of l)) (get_or_default i.loads k o None within) ∙ wfq_at i k in
    let made-is : (get_or xs k nothing_injected).ieq.0 ≡ ieq_of (basis_of i) (suc k) = total_ieq _ _ _ (t k lt) in
    let ok = inputs_in_ranges i in
    let made = summed_ieq_around (basis_of i) ok (suc k) in
    let charged = wfq_up_to (basis_of i) ok (suc k) in
    (omega (arith, ints), ap (λ z. i.terms.rate.0 *ℤ z) (omega (arith, ints)))

pub overflow_add-self : goal.overflow_add-self
overflow_add-self c = (energy c.args.self.now.inputs.now c.args.self.now.injected c.args.k _ _ c.args.self.now.totalled c.requires (search rules) c.charged-drawn.ensures.value).0

pub returns : goal.returns
returns c = c.at.ensures ∙ (energy c.args.self.now.inputs.now c.args.self.now.injected c.args.k _ _ c.args.self.now.totalled c.requires (search rules) c.charged-drawn.ensures.value).1
