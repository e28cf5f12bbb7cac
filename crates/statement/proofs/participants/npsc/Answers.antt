use Rattle.std.proofs.Common.{◌≡◌, ℕ, Bool, true, not, ltb, [], ◌∷◌, length, nat_abs, is_some, IfOk, Some, ap, ◌∙◌, subst, arith, lit<, w64, to_z, of_z, rules}
use Rattle.std.proofs.lemmas.Bool.Decides.{nat_tests}
use Rattle.units.specs.Checks.{first_met}
use Rattle.units.specs.Ranges.{accounts, inside, account_range}
use Rattle.house.specs.Open.{check}
use Rattle.house.specs.State.{house_says}
use Rattle.house.proofs.Answering.{passes}
use Rattle.statement.specs.Participants.{credits}
use Rattle.statement.proofs.participants.npsc.Goals as goal

-- neither of the first two checks is met
two_pass : (b : Bool) (n : ℕ) → true ≡ b → 0 ≡ first_met (check 11 (ltb n accounts) ∷ []) → 0 ≡ first_met (check 1 (not b) ∷ check 11 (ltb n accounts) ∷ [])
two_pass b n h l = grind (arith, nat_tests)

pub returns : goal.returns
returns c =
    let lines = c.args.lines.now in
    let h = house_says c.args.house.now in
    let same : nat_abs (to_z w64 (of_z w64 c.in_ok-participant.field-0)) ≡ nat_abs c.args.participant = search rules in
    let good : true ≡ inside account_range c.args.participant = search rules in
    record {
      answer =
          c.sum_credited.ensures.answer
          ∙ ap (λ p. first_met (check 15 (not (is_some (credits h p lines))) ∷ [])) same
          ∙ passes (check 1 (not (inside account_range c.args.participant)) ∷ check 11 (ltb (length lines) accounts) ∷ []) (check 15 (not (is_some (credits h (nat_abs c.args.participant) lines))) ∷ []) (lit< tt, (lit< tt, tt)) (two_pass (inside account_range c.args.participant) (length lines) good c.in_ok-check_lines.ensures);
      value = subst (λ p. IfOk c.sum_credited.result (λ m. credits h p lines ≡ Some m.0)) same c.sum_credited.ensures.value;
    }
