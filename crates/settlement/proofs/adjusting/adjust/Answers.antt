use Rattle.std.proofs.Common.{◌≡◌, ℕ, ℤ, Bool, not, List, [], ◌∷◌, ◌++◌, Some, None, Option, sym, ap, ◌∙◌, subst, arith, lit<, rules}
use Rattle.units.specs.Checks.{Check, first_met}
use Rattle.units.specs.Ranges.{accounts}
use Rattle.units.specs.Refusals.{refusal_number}
use Rattle.units.specs.declared.refusal.Refusal.{Refusal}
use Rattle.book.specs.Statement.{InTurn, Settled, amount_of, statement_checks}
use Rattle.calls.specs.declared.StampedCall.{StampedCall}
use Rattle.rows.specs.Meaning.{IntervalSaid, facility_rows, interval_rows, load_rows}
use Rattle.rows.specs.declared.correction.Correction.{Correction}
use Rattle.house.specs.Open.{check, if_open, open_at}
use Rattle.house.specs.State.{HouseState, house_says}
use Rattle.house.proofs.Answering.{Numbered, handed_on, passes, stops}
use Rattle.statement.specs.Statements.{is_stamped, stamped_key}
use Rattle.settlement.specs.Steps.{adjusted_house, adjusting_stamp, adjusts_by, pending_check}
use Rattle.book.proofs.Amounts.{checks_same, settled_same, turns_same}
use Rattle.settlement.proofs.Joining.{two_are_one}
use Rattle.settlement.proofs.adjusting.adjust.Goals as goal

-- the checks on the open interval but for those of the book
abbrev planned : Correction → StampedCall → HouseState → (IntervalSaid → ℕ → ℤ) → IntervalSaid → List Check
planned step call h adds i = adjusting_stamp step call i ++ pending_check h (adds i) ∷ []

numbered : (b : Bool) (step : Correction) (call : StampedCall) (h : HouseState) (adds : IntervalSaid → ℕ → ℤ) (i : IntervalSaid) → Numbered (check 1 b ∷ planned step call h adds i)
numbered b step call h adds i = (lit< tt, (lit< tt, (lit< tt, (lit< tt, (lit< tt, tt)))))

-- a refusal before the book is asked
early : (e : Refusal) (b : Bool) (o : Option IntervalSaid) (p s : IntervalSaid → List Check) → refusal_number e ≡ first_met (check 1 b ∷ if_open o p) → refusal_number e ≡ first_met (check 1 b ∷ if_open o (λ i. p i ++ s i))
early e b None p s h = h
early e b (Some i) p s h = stops e (check 1 b ∷ p i) (s i) h

-- past all that is decided before the book is asked
past_plan : (b : Bool) (o : Option IntervalSaid) (i : IntervalSaid) (p s : IntervalSaid → List Check) → o ≡ Some i → Numbered (check 1 b ∷ p i) → 0 ≡ first_met (check 1 b ∷ if_open o p) → first_met (s i) ≡ first_met (check 1 b ∷ if_open o (λ i. p i ++ s i))
past_plan b o i p s e n h =
    passes (check 1 b ∷ p i) (s i) n (h ∙ ap (λ q. first_met (check 1 b ∷ if_open q p)) e)
    ∙ ap (λ q. first_met (check 1 b ∷ if_open q (λ i. p i ++ s i))) (sym e)

some_same : (i j : IntervalSaid) → Some i ≡ Some j → i ≡ j
some_same i j e = cc

pub returns-in_err-plan : goal.returns-in_err-plan
returns-in_err-plan g c =
    let step = c.args.correction in
    let call = c.args.call.now in
    let h = house_says c.args.house.now in
    let is = interval_rows c.args.intervals.now in
    let adds = adjusts_by step h c.args.readings.now in
    let held = g.B.Book.held c.args.book.now in
    let room = g.B.Book.room c.args.book.now in
    record {
      answer =
          handed_on c.from_residual.result c.in_err-plan.field-0.0 c.from_residual.ensures.1
          ∙ early c.in_err-plan.field-0.0 (not (is_stamped call)) (open_at is (stamped_key call)) (planned step call h adds) (λ i. statement_checks held room (adds i)) c.in_err-plan.ensures.answer;
      intervals = search rules;
      house = search rules;
      book = search rules;
      turns = search rules;
      conditions = λ k x. x;
      joined = λ j. two_are_one h.operator j (facility_rows c.args.readings.now.facilities.now) (load_rows c.args.readings.now.loads.now);
    }

pub returns-in_err-post_statement : goal.returns-in_err-post_statement
returns-in_err-post_statement g c =
    let step = c.args.correction in
    let call = c.args.call.now in
    let h = house_says c.args.house.now in
    let is = interval_rows c.args.intervals.now in
    let adds = adjusts_by step h c.args.readings.now in
    let held = g.B.Book.held c.args.book.now in
    let room = g.B.Book.room c.args.book.now in
    let plan = c.in_ok-plan.ensures in
    let i = plan.planned.interval in
    let amount = amount_of c.in_ok-plan.plan.amounts in
    record {
      answer =
          handed_on c.from_residual-in_err-post_statement.result c.in_err-post_statement.field-0.0 c.from_residual-in_err-post_statement.ensures.1
          ∙ c.in_err-post_statement.ensures.answer
          ∙ checks_same amount (adds i) plan.planned.amounts held room
          ∙ past_plan (not (is_stamped call)) (open_at is (stamped_key call)) i (planned step call h adds) (λ j. statement_checks held room (adds j)) plan.planned.opened (numbered (not (is_stamped call)) step call h adds i) plan.answer;
      intervals = search rules;
      house = search rules;
      book = search rules;
      turns = search rules;
      conditions = c.in_err-post_statement.ensures.conditions;
      joined = λ j. two_are_one h.operator j (facility_rows c.args.readings.now.facilities.now) (load_rows c.args.readings.now.loads.now);
    }

pub returns : goal.returns
returns g c =
    let step = c.args.correction in
    let call = c.args.call.now in
    let h = house_says c.args.house.now in
    let is = interval_rows c.args.intervals.now in
    let adds = adjusts_by step h c.args.readings.now in
    let held = g.B.Book.held c.args.book.now in
    let room = g.B.Book.room c.args.book.now in
    let plan = c.in_ok-plan.ensures in
    let i = plan.planned.interval in
    let amount = amount_of c.in_ok-plan.plan.amounts in
    let posted = c.in_ok-post_statement.ensures in
    let new = c.post_statement.new.book in
    record {
      answer =
          posted.answer
          ∙ checks_same amount (adds i) plan.planned.amounts held room
          ∙ past_plan (not (is_stamped call)) (open_at is (stamped_key call)) i (planned step call h adds) (λ j. statement_checks held room (adds j)) plan.planned.opened (numbered (not (is_stamped call)) step call h adds i) plan.answer;
      intervals = ap interval_rows c.write.ensures ∙ plan.intervals;
      house = λ j e. plan.planned.house ∙ ap (λ k. adjusted_house h (adds k)) (some_same i j (sym plan.planned.opened ∙ e));
      book = λ j e. subst (λ k. Settled held room (adds k) (g.B.Book.held new) (g.B.Book.room new)) (some_same i j (sym plan.planned.opened ∙ e)) (settled_same amount (adds i) plan.planned.amounts held room _ _ posted.accepted);
      turns = λ j e. subst (λ k. InTurn g.B.Book.held g.B.Book.room g.B.Book.takes (adds k) accounts c.args.book.now new) (some_same i j (sym plan.planned.opened ∙ e)) (turns_same amount (adds i) plan.planned.amounts _ _ _ accounts _ _ (omega arith) posted.turns);
      conditions = posted.conditions;
      joined = λ j. two_are_one h.operator j (facility_rows c.args.readings.now.facilities.now) (load_rows c.args.readings.now.loads.now);
    }
