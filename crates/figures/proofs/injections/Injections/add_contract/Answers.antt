use Rattle.std.proofs.Common.{◌≡◌, ℕ, ◌+◌, ◌≤◌, Bool, true, false, cond, eqb, ℤ, pos, ◌+ℤ◌, ◌-ℤ◌, ◌*ℤ◌, neg_ℤ, sym, ap, ◌∙◌, arith}
use Rattle.std.proofs.lemmas.Int.{ints}
use Rattle.units.specs.Ranges.{Around}
use Rattle.formulas.specs.Figures.{beq_of}
use Rattle.figures.specs.Meaning.{basis_of, bilateral_of}
use Rattle.records.specs.declared.inputs.Inputs.{Inputs}
use Rattle.records.specs.declared.entries.Contract.{Contract}
use Rattle.formulas.proofs.Bounds.{beq_up_to, product_around}
use Rattle.figures.proofs.Gathered.{inputs_in_ranges}
use Rattle.figures.proofs.injections.Injections.add_contract.Goals as goal

-- what a contract moves is far within the bound
moved : (i : Inputs) (k : Contract) (q x : ℤ) → q ≡ beq_of (basis_of i) (bilateral_of k) → x ≡ i.terms.usep.0 *ℤ q → Around 1300000000000000 x
moved i k q x is e =
    let ok = inputs_in_ranges i in
    let some = beq_up_to (basis_of i) ok (bilateral_of k) (k.baq_ok, k.bwf_ok, k.bif_ok) in
    rw e (rw is (product_around 1000000 1300000000 i.terms.usep.0 (beq_of (basis_of i) (bilateral_of k)) i.terms.usep_ok (omega (arith, ints))))

-- an amount that rose by nothing or by x
raised : (t : Bool) (v w x : ℤ) (A B : ℕ) → w ≡ v +ℤ cond t x (pos 0) → Around A v → Around B x → A + B ≤ 1000000000000000000 → Around 1000000000000000000 w
raised true v w x A B e f g h = omega (arith, ints)
raised false v w x A B e f g h = omega (arith, ints)

pub credit-requires : goal.credit-requires
credit-requires c =
    let x = moved c.args.self.now.inputs.now c.in-Some.c _ _ c.contracted.ensures c.at-amount.ensures in
    record { account = c.in-Some.c.buyer_ok; before = λ a ok. omega (arith, ints, c.requires a ok); by = omega (arith, ints) }

pub overflow_sub-amount : goal.overflow_sub-amount
overflow_sub-amount c = let x = moved c.args.self.now.inputs.now c.in-Some.c _ _ c.contracted.ensures c.at-amount.ensures in omega (arith, ints)

pub credit-requires-in-Some : goal.credit-requires-in-Some
credit-requires-in-Some c =
    let x = moved c.args.self.now.inputs.now c.in-Some.c _ _ c.contracted.ensures c.at-amount.ensures in
    record { account = c.in-Some.c.seller_ok; before = λ a ok. raised (eqb c.in-Some.c.buyer a) _ _ _ _ _ (c.credit.ensures a ok) (c.requires a ok) x (omega arith); by = omega (arith, ints) }

-- the buyer's gain and the seller's loss
traded : (s t : Bool) (v w z x y : ℤ) → w ≡ v +ℤ cond s x (pos 0) → z ≡ w +ℤ cond t y (pos 0) → y ≡ neg_ℤ x → z ≡ v +ℤ (cond s x (pos 0) -ℤ cond t x (pos 0))
traded true true v w z x y p q e = omega (arith, ints)
traded true false v w z x y p q e = omega (arith, ints)
traded false true v w z x y p q e = omega (arith, ints)
traded false false v w z x y p q e = omega (arith, ints)

pub returns-in-Some : goal.returns-in-Some
returns-in-Some c a ok =
    let x = moved c.args.self.now.inputs.now c.in-Some.c _ _ c.contracted.ensures c.at-amount.ensures in
    let is : c.at-amount.result.0 ≡ c.args.self.now.inputs.now.terms.usep.0 *ℤ beq_of (basis_of c.args.self.now.inputs.now) (bilateral_of c.in-Some.c) = c.at-amount.ensures ∙ ap (λ q. c.args.self.now.inputs.now.terms.usep.0 *ℤ q) c.contracted.ensures in
    let end = traded (eqb c.in-Some.c.buyer a) (eqb c.in-Some.c.seller a) _ _ _ _ _ (c.credit.ensures a ok) (c.credit-in-Some.ensures a ok) (omega (arith, ints)) in
    rw c.in-Some.is (rw (sym is) end)
