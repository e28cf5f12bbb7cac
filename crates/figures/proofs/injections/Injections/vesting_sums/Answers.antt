use Rattle.std.proofs.Common.{◌∙◌, arith}
use Rattle.std.proofs.lemmas.Int.{ints}
use Rattle.formulas.specs.Figures.{vcsc_of, own_vcsc_of}
use Rattle.figures.specs.Meaning.{basis_of}
use Rattle.figures.proofs.Balanced.{balanced_same}
use Rattle.formulas.proofs.Bounds.{own_vcsc_around}
use Rattle.figures.proofs.Gathered.{inputs_in_ranges}
use Rattle.figures.proofs.injections.Injections.vesting_sums.Goals as goal

pub balance_out-requires : goal.balance_out-requires
balance_out-requires c =
    let i = c.args.self.now.inputs.now in
    record { account = i.terms.counterparty_ok; modest = λ a ok. omega (arith, ints, c.own_vestings-amounts.ensures a ok, own_vcsc_around (basis_of i) (inputs_in_ranges i) a) }

pub returns : goal.returns
unfolding vcsc_of
returns c a ok =
    let i = c.args.self.now.inputs.now in
    c.balance_out.ensures a ok ∙ balanced_same _ (own_vcsc_of (basis_of i)) i.terms.counterparty c.own_vestings-amounts.ensures a ok
