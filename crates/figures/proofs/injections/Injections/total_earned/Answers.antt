use Rattle.std.proofs.Common.{◌≡◌, suc, sym, ap, ◌∙◌, arith}
use Rattle.std.proofs.lemmas.Int.{ints}
use Rattle.units.specs.Ranges.{accounts}
use Rattle.formulas.specs.Figures.{gesc_of}
use Rattle.figures.specs.Meaning.{basis_of}
use Rattle.formulas.specs.Sums.{sum}
use Rattle.formulas.proofs.Bounds.{gesc_around}
use Rattle.figures.proofs.Gathered.{inputs_in_ranges, total_gesc}
use Rattle.formulas.proofs.Steps.{sum_next}
use Rattle.formulas.proofs.Sums.{sum_none, sum_within}
use Rattle.figures.proofs.injections.Injections.total_earned.Goals as goal

pub loop-account-init : goal.loop-account-init
loop-account-init c = sym (sum_none _)

pub overflow_add-all : goal.overflow_add-all
overflow_add-all c =
    let i = basis_of c.args.self.now.inputs.now in
    let ok = inputs_in_ranges c.args.self.now.inputs.now in
    omega (arith, ints, total_gesc i (suc c.loop-account.account-index) _ (c.args.self.now.totalled c.loop-account.account-index c.loop-account-test.true), gesc_around i ok (suc c.loop-account.account-index), sum_within c.loop-account.account-index 1280000000000000 (gesc_of i) (λ a _ _. gesc_around i ok a))

pub loop-account-preserved : goal.loop-account-preserved
loop-account-preserved c =
    let i = basis_of c.args.self.now.inputs.now in
    let ok = inputs_in_ranges c.args.self.now.inputs.now in
    omega (arith, ints, total_gesc i (suc c.loop-account.account-index) _ (c.args.self.now.totalled c.loop-account.account-index c.loop-account-test.true), gesc_around i ok (suc c.loop-account.account-index), sum_within c.loop-account.account-index 1280000000000000 (gesc_of i) (λ a _ _. gesc_around i ok a), sum_next c.loop-account.account-index (gesc_of i))

pub returns : goal.returns
returns c = let end : c.loop-account.account-index ≡ accounts = omega arith in c.loop-account.invariant ∙ ap (λ n. sum n (gesc_of (basis_of c.args.self.now.inputs.now))) end
