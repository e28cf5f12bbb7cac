use Rattle.std.proofs.Common.{◌≡◌, cond, eqb, ℤ, pos, ◌+ℤ◌, ◌-ℤ◌, ◌*ℤ◌, sym, ap, ◌∙◌, arith, SFits, to_z, of_z}
use mir.Syntax.{w128}
use Rattle.std.proofs.lemmas.Int.{ints}
use Rattle.units.specs.Division.{floor}
use Rattle.units.specs.Ranges.{Around, accounts}
use Rattle.formulas.specs.Figures.{gesc_of, heua_of, heur_of, lesd_of, weq_of, total_load, whole}
use Rattle.figures.specs.Meaning.{basis_of}
use Rattle.formulas.specs.Sums.{sum}
use Rattle.records.specs.declared.inputs.Inputs.{Inputs}
use Rattle.formulas.proofs.Bounds.{gesc_around, product_around, total_load_is, total_load_up_to}
use Rattle.figures.proofs.Gathered.{inputs_in_ranges}
use Rattle.formulas.proofs.Sums.{sum_scale, sum_within}
use Rattle.figures.proofs.injections.Injections.uplift.Goals as goal

-- what was earned, what was paid, and the uplift that they leave
parts : (i : Inputs) (load earned paid : ℤ) → load ≡ sum accounts (weq_of (basis_of i)) → earned ≡ sum accounts (gesc_of (basis_of i)) → paid ≡ i.terms.usep.0 *ℤ load
    → Around 122880000000000000 earned × Around 960000000000000 paid × (earned -ℤ paid +ℤ i.terms.pending.0 ≡ heua_of (basis_of i)) × (load ≡ pos (total_load (basis_of i)))
unfolding heua_of lesd_of
parts i load earned paid l e p =
    let ok = inputs_in_ranges i in
    let load_is : load ≡ pos (total_load (basis_of i)) = l ∙ sym (total_load_is (basis_of i) ok) in
    let few = total_load_up_to (basis_of i) ok in
    let all : paid ≡ sum accounts (lesd_of (basis_of i)) = p ∙ ap (λ z. i.terms.usep.0 *ℤ z) l ∙ sym (sum_scale accounts i.terms.usep.0 (weq_of (basis_of i))) in (
      rw e (sum_within accounts 1280000000000000 (gesc_of (basis_of i)) (λ a _ _. gesc_around (basis_of i) ok a)),
      rw p (product_around 1000000 960000000 i.terms.usep.0 load i.terms.usep_ok (omega (arith, ints))),
      ap (λ z. z -ℤ paid +ℤ i.terms.pending.0) e ∙ ap (λ z. sum accounts (gesc_of (basis_of i)) -ℤ z +ℤ i.terms.pending.0) all,
      load_is,
    )

-- the rate, as the code finds it
rate_is : (i : Inputs) (amount load : ℤ) → amount ≡ heua_of (basis_of i) → load ≡ pos (total_load (basis_of i)) → cond (eqb (whole load) 0) (pos 0) (floor amount (whole load)) ≡ heur_of (basis_of i)
unfolding heur_of
rate_is i amount load a l =
    ap (λ z. cond (eqb (whole z) 0) (pos 0) (floor amount (whole z))) l ∙ ap (λ z. cond (eqb (total_load (basis_of i)) 0) (pos 0) (floor z (total_load (basis_of i)))) a

pub overflow_sub-amount : goal.overflow_sub-amount
overflow_sub-amount c = let p = parts c.args.self.now.inputs.now _ _ _ c.total_withdrawn-load.ensures c.total_earned-earned.ensures c.at-paid.ensures in omega (arith, ints)

-- three amounts together, as the code holds them
three : (e p q : ℤ) → Around 122880000000000000 e → Around 960000000000000 p → Around 100000000000000000 q → SFits w128 (to_z w128 (of_z w128 (to_z w128 (of_z w128 e) -ℤ to_z w128 (of_z w128 p))) +ℤ to_z w128 (of_z w128 q))
three e p q f g h = omega (arith, ints)

pub overflow_add-amount : goal.overflow_add-amount
overflow_add-amount c =
    let p = parts c.args.self.now.inputs.now _ _ _ c.total_withdrawn-load.ensures c.total_earned-earned.ensures c.at-paid.ensures in
    three _ _ _ p.0 p.1 c.args.self.now.inputs.now.terms.pending_ok

pub rate_of-rate-requires : goal.rate_of-rate-requires
rate_of-rate-requires c =
    let p = parts c.args.self.now.inputs.now _ _ _ c.total_withdrawn-load.ensures c.total_earned-earned.ensures c.at-paid.ensures in
    let few = total_load_up_to (basis_of c.args.self.now.inputs.now) (inputs_in_ranges c.args.self.now.inputs.now) in
    record { amount = omega (arith, ints); load = omega (arith, ints) }

pub returns : goal.returns
returns c =
    let i = c.args.self.now.inputs.now in
    let p = parts i _ _ _ c.total_withdrawn-load.ensures c.total_earned-earned.ensures c.at-paid.ensures in
    record { amount = omega (arith, ints); load = p.3; rate = c.rate_of-rate.ensures ∙ rate_is i _ _ (omega (arith, ints)) p.3 }
