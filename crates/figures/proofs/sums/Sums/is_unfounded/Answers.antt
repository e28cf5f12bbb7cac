use Rattle.std.proofs.Common.{◌≡◌, ℕ, suc, ◌<◌, ◌&&◌, ◌||◌, eqb, length, get_or, pos, is_some, Some, None, Option, sym, refl, ap, ◌∙◌, rules}
use Rattle.std.specs.Option.{option_map}
use Rattle.std.proofs.lemmas.List.{get_or_default}
use Rattle.formulas.specs.Basis.{facilities, over}
use Rattle.formulas.specs.Figures.{is_0, unfounded}
use Rattle.figures.specs.Meaning.{basis_of, no_tranches, vested_of}
use Rattle.figures.specs.Working.{Totalled, nothing_injected}
use Rattle.figures.specs.declared.injected.Injected.{Injected}
use Rattle.records.specs.declared.inputs.Inputs.{Inputs}
use Rattle.records.specs.declared.inputs.Tranches.{Tranches}
use Rattle.records.specs.declared.entries.Vesting.{Vesting}
use Rattle.figures.proofs.sums.Sums.is_unfounded.Goals as goal

same_test : (o : Option Vesting) → is_some (option_map vested_of o) ≡ is_some o
same_test None = refl
same_test (Some v) = refl

-- a row and no facility, as the code holds them
found : (i : Inputs) (k : ℕ) (t : Tranches) (x : Injected) → k < length i.vestings → Totalled (basis_of i).facility facilities (suc k) x
    → unfounded (basis_of i) (suc k) ≡ ((is_some (get_or i.vestings k t).base || is_some (get_or i.vestings k t).first || is_some (get_or i.vestings k t).second) && eqb x.count 0)
unfolding over
found i k t x lt total =
    let here = get_or i.vestings k no_tranches in
    ap (λ b. (b || is_some (option_map vested_of here.first) || is_some (option_map vested_of here.second)) && is_0 (over (basis_of i).facility (suc k) (λ r. pos 1))) (same_test here.base)
    ∙ ap (λ b. (is_some here.base || b || is_some (option_map vested_of here.second)) && is_0 (over (basis_of i).facility (suc k) (λ r. pos 1))) (same_test here.first)
    ∙ ap (λ b. (is_some here.base || is_some here.first || b) && is_0 (over (basis_of i).facility (suc k) (λ r. pos 1))) (same_test here.second)
    ∙ ap (λ z. (is_some here.base || is_some here.first || is_some here.second) && is_0 z) (sym total.count)
    ∙ ap (λ s. (is_some s.base || is_some s.first || is_some s.second) && eqb x.count 0) (get_or_default i.vestings k no_tranches t lt)

pub returns-then-has_row : goal.returns-then-has_row
returns-then-has_row c =
    let is = found c.args.self.now.injections.inputs.now c.args.k c.index-inputs-k.result _ (search rules) (c.args.self.now.injections.totalled c.args.k c.requires) in
    sym (is ∙ ap (λ b. b && eqb (get_or c.args.self.now.injections.injected c.args.k nothing_injected).count 0) (sym c.if-has_row.ensures))

pub returns-else-has_row : goal.returns-else-has_row
returns-else-has_row c =
    let is = found c.args.self.now.injections.inputs.now c.args.k c.index-inputs-k.result _ (search rules) (c.args.self.now.injections.totalled c.args.k c.requires) in
    c.if-has_row.false ∙ sym (is ∙ ap (λ b. b && eqb (get_or c.args.self.now.injections.injected c.args.k nothing_injected).count 0) (sym c.if-has_row.ensures))
