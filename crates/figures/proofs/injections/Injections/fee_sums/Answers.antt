use Rattle.std.proofs.Common.{◌∙◌, arith}
use Rattle.std.proofs.lemmas.Int.{ints}
use Rattle.formulas.specs.Figures.{fee_of, own_fee_of}
use Rattle.figures.specs.Meaning.{basis_of}
use Rattle.figures.proofs.Balanced.{balanced_same}
use Rattle.formulas.proofs.Bounds.{own_fee_around}
use Rattle.figures.proofs.Gathered.{inputs_in_ranges}
use Rattle.figures.proofs.injections.Injections.fee_sums.Goals as goal

pub balance_out-requires : goal.balance_out-requires
balance_out-requires c =
    let i = c.args.self.now.inputs.now in
    record { account = i.terms.operator_ok; modest = λ a ok. omega (arith, ints, c.own_fees-amounts.ensures a ok, own_fee_around (basis_of i) (inputs_in_ranges i) a) }

pub returns : goal.returns
unfolding fee_of
returns c a ok =
    let i = c.args.self.now.inputs.now in
    c.balance_out.ensures a ok ∙ balanced_same _ (own_fee_of (basis_of i)) i.terms.operator c.own_fees-amounts.ensures a ok
