use Rattle.std.proofs.Common.{◌≡◌, ℕ, Bool, true, cond, not, ◌&&◌, eqb, [], ◌∷◌, nat_abs, ◌∙◌, rules}
use Rattle.units.specs.Ranges.{inside, account_range, house_range}
use Rattle.house.specs.Open.{check}
use Rattle.house.specs.State.{all_participants}
use Rattle.house.proofs.Answering.{handed_on, stops}
use Rattle.house.proofs.opening.Opening.new.Goals as goal

-- where the other numbers lie in their ranges, the participants decide
last_range : (n : ℕ) (a b c d : Bool) → true ≡ a → true ≡ b → true ≡ c → n ≡ cond (not d) 1 0 → n ≡ cond (not (a && b && c && d)) 1 0
last_range n a b c d p q r h = cc

pub returns-in_err-participants : goal.returns-in_err-participants
returns-in_err-participants c =
    let call = c.args.call.now in
    let h : true ≡ inside house_range call.number = search rules in
    let k : true ≡ inside account_range call.counterparty = search rules in
    let o : true ≡ inside account_range call.operator = search rules in
    let e = c.in_err-participants.field-0.0 in
    record {
      answer =
          handed_on c.from_residual-in_err-participants.result e c.from_residual-in_err-participants.ensures.1
          ∙ stops e (check 1 (not (inside house_range call.number && inside account_range call.counterparty && inside account_range call.operator && all_participants call.participants)) ∷ [])
          (check 2 (eqb (nat_abs call.counterparty) (nat_abs call.operator)) ∷ []) (last_range _ _ _ _ _ h k o c.in_err-participants.ensures.answer);
      opening = search rules;
    }
