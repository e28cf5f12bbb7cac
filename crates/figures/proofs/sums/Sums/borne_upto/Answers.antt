use Rattle.std.proofs.Common.{◌≡◌, ◌<◌, ℤ, pos, ◌*ℤ◌, nat_abs, sym, ap, ◌∙◌, arith, w64, SFits, to_z, of_z, rules}
use mir.Syntax.{w128}
use Rattle.std.proofs.lemmas.Int.{ints, to_z-of_z}
use Rattle.units.specs.Division.{floor}
use Rattle.units.specs.Ranges.{Around, Within}
use Rattle.formulas.specs.Figures.{heua_of, borne, total_load}
use Rattle.figures.specs.Meaning.{basis_of}
use Rattle.records.specs.declared.inputs.Inputs.{Inputs}
use Rattle.formulas.proofs.Bounds.{heua_around, product_around, total_load_up_to}
use Rattle.figures.proofs.Gathered.{inputs_in_ranges}
use Rattle.formulas.proofs.Shares.{borne_some}
use Rattle.figures.proofs.sums.Sums.borne_upto.Goals as goal

-- the product as the code holds it
product : (h c : ℤ) → Around 223840000000000000 h → Within (pos 0) (pos 960000000) c → (to_z w128 (of_z w128 h) *ℤ to_z w128 (of_z w128 (to_z w64 (of_z w64 c))) ≡ h *ℤ c) × SFits w128 (h *ℤ c)
product h c amount load =
    let wide : SFits w128 h = omega (arith, ints) in
    let small : SFits w64 c = omega (arith, ints) in
    let wider : SFits w128 c = omega (arith, ints) in
    (simp to_z-of_z, omega (arith, ints, product_around 223840000000000000 960000000 h c amount (omega (arith, ints))))

-- the amount and the load of the uplift are within their bounds
bounds : (i : Inputs) (h c : ℤ) → h ≡ heua_of (basis_of i) → Within (pos 0) (pos (total_load (basis_of i))) c → Around 223840000000000000 h × Within (pos 0) (pos 960000000) c
bounds i h c e within = (rw e (heua_around (basis_of i) (inputs_in_ranges i)), omega (arith, ints, total_load_up_to (basis_of i) (inputs_in_ranges i)))

pub overflow_mul-uplift : goal.overflow_mul-uplift
overflow_mul-uplift c =
    let b = bounds c.args.self.now.injections.inputs.now _ _ c.args.self.now.uplift_ok.amount c.requires in
    let p = product c.args.self.now.uplift.amount.0 c.args.upto.0 b.0 b.1 in
    rw p.0 p.1

-- the quotient as the code finds it
quotient : (i : Inputs) (h c load found : ℤ) → h ≡ heua_of (basis_of i) → load ≡ pos (total_load (basis_of i)) → Within (pos 0) (pos (total_load (basis_of i))) c
    → 0 < nat_abs (to_z w64 (of_z w64 load)) → found ≡ floor (to_z w128 (of_z w128 (to_z w128 (of_z w128 h) *ℤ to_z w128 (of_z w128 (to_z w64 (of_z w64 c)))))) (nat_abs (to_z w64 (of_z w64 load)))
    → found ≡ borne (heua_of (basis_of i)) (total_load (basis_of i)) c
quotient i h c load found e l within some f =
    let b = bounds i h c e within in
    let p = product h c b.0 b.1 in
    let fits : SFits w64 load = omega (arith, ints, total_load_up_to (basis_of i) (inputs_in_ranges i)) in
    let whole : nat_abs (to_z w64 (of_z w64 load)) ≡ total_load (basis_of i) = ap nat_abs (to_z-of_z w64 load fits ∙ l) in
    let positive : 0 < total_load (basis_of i) = omega arith in
    f ∙ ap (λ n. floor (to_z w128 (of_z w128 (to_z w128 (of_z w128 h) *ℤ to_z w128 (of_z w128 (to_z w64 (of_z w64 c)))))) n) whole
    ∙ ap (λ z. floor (to_z w128 (of_z w128 z)) (total_load (basis_of i))) p.0 ∙ ap (λ z. floor z (total_load (basis_of i))) (to_z-of_z w128 (h *ℤ c) p.1)
    ∙ ap (λ z. floor (z *ℤ c) (total_load (basis_of i))) e ∙ sym (borne_some _ _ c positive)

pub returns-in-Some : goal.returns-in-Some
returns-in-Some c =
    let fits : SFits w128 c.in-Some.amount = search rules in
    let found = c.in-Some.ensures in
    to_z-of_z w128 c.in-Some.amount fits ∙ quotient c.args.self.now.injections.inputs.now _ _ _ _ c.args.self.now.uplift_ok.amount c.args.self.now.uplift_ok.load c.requires found.0 found.1
