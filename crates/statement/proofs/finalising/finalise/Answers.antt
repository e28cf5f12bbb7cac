use Rattle.std.proofs.Common.{◌≡◌, ℕ, Bool, not, ltb, List, ◌∷◌, ◌++◌, length, ℤ, Some, None, Option, sym, ap, ◌∙◌, subst, arith, lit<, rules}
use Rattle.units.specs.Checks.{Check, first_met}
use Rattle.units.specs.Ranges.{accounts}
use Rattle.units.specs.Refusals.{refusal_number}
use Rattle.units.specs.declared.refusal.Refusal.{Refusal}
use Rattle.book.specs.Statement.{InTurn, Settled, amount_of, statement_checks}
use Rattle.book.proofs.Amounts.{checks_same, settled_same, turns_same}
use Rattle.figures.specs.Settled.{LinesAre}
use Rattle.formulas.specs.Basis.{Basis}
use Rattle.formulas.specs.Figures.{nasc_of, settling_checks}
use Rattle.rows.specs.Meaning.{IntervalSaid, interval_rows}
use Rattle.house.specs.Calls.{is_stamp}
use Rattle.house.specs.Open.{check, if_open, open_at}
use Rattle.house.specs.State.{house_says}
use Rattle.house.proofs.Answering.{Numbered, passes, stops}
use Rattle.statement.specs.Finals.{final_stamp, statement_key}
use Rattle.statement.specs.Gathered.{basis_by}
use Rattle.statement.specs.Statements.{belongs}
use Rattle.statement.proofs.Lines.{begin_alike}
use Rattle.statement.proofs.finalising.finalise.Goals as goal

-- the checks that depend on the interval, but for those of the book
abbrev rest : ℤ → ℤ → ℕ → (IntervalSaid → Basis) → IntervalSaid → List Check
rest d m n basis i = final_stamp d m i ++ check 11 (ltb n accounts) ∷ settling_checks (basis i)

numbered : (a b : Bool) (d m : ℤ) (n : ℕ) (basis : IntervalSaid → Basis) (i : IntervalSaid) → Numbered (check 1 a ∷ check 5 b ∷ rest d m n basis i)
numbered a b d m n basis i = (lit< tt, (lit< tt, (lit< tt, (lit< tt, (lit< tt, (lit< tt, (lit< tt, (lit< tt, tt))))))))

-- a refusal before the book is asked
early : (e : Refusal) (a b : Bool) (o : Option IntervalSaid) (p s : IntervalSaid → List Check) → refusal_number e ≡ first_met (check 1 a ∷ check 5 b ∷ if_open o p) → refusal_number e ≡ first_met (check 1 a ∷ check 5 b ∷ if_open o (λ i. p i ++ s i))
early e a b None p s h = h
early e a b (Some i) p s h = stops e (check 1 a ∷ check 5 b ∷ p i) (s i) h

-- past all that is decided before the book is asked
past_plan : (g b : Bool) (o : Option IntervalSaid) (i : IntervalSaid) (p s : IntervalSaid → List Check) → o ≡ Some i → Numbered (check 1 (not g) ∷ check 5 b ∷ p i) → 0 ≡ first_met (check 1 (not g) ∷ check 5 b ∷ if_open o p) → first_met (s i) ≡ first_met (check 1 (not g) ∷ check 5 b ∷ if_open o (λ i. p i ++ s i))
past_plan g b o i p s e n h =
    passes (check 1 (not g) ∷ check 5 b ∷ p i) (s i) n (h ∙ ap (λ q. first_met (check 1 (not g) ∷ check 5 b ∷ if_open q p)) e)
    ∙ ap (λ q. first_met (check 1 (not g) ∷ check 5 b ∷ if_open q (λ i. p i ++ s i))) (sym e)

some_same : (i j : IntervalSaid) → Some i ≡ Some j → i ≡ j
some_same i j e = cc

pub returns-in-Err : goal.returns-in-Err
returns-in-Err g c =
    let d = c.args.call.now.days in
    let m = c.args.call.now.minute in
    let st = c.args.statement in
    let h = house_says c.args.house.now in
    let is = interval_rows c.args.intervals.now in
    let n = length c.args.lines.now in
    let basis = basis_by h c.args.rows.now in
    let held = g.B.Book.held c.args.book.now in
    let room = g.B.Book.room c.args.book.now in
    record {
      answer = early c.in-Err.refusal (not (is_stamp d m)) (not (belongs st h.number is)) (open_at is (statement_key st)) (rest d m n basis) (λ j. statement_checks held room (nasc_of (basis j))) c.in-Err.ensures.answer;
      intervals = search rules;
      house = search rules;
      lines = search rules;
      book = search rules;
      turns = search rules;
      conditions = λ k x. x;
      statement = search rules;
    }

pub returns-in-Err-post_statement : goal.returns-in-Err-post_statement
returns-in-Err-post_statement g c =
    let d = c.args.call.now.days in
    let m = c.args.call.now.minute in
    let st = c.args.statement in
    let h = house_says c.args.house.now in
    let is = interval_rows c.args.intervals.now in
    let n = length c.args.lines.now in
    let basis = basis_by h c.args.rows.now in
    let held = g.B.Book.held c.args.book.now in
    let room = g.B.Book.room c.args.book.now in
    let plan = c.in-Ok.ensures in
    let i = plan.figures.0 in
    let found = plan.figures.1.0 in
    let amount = amount_of c.credits-amounts.result in
    let same = c.credits-amounts.ensures (basis i) plan.figures.1.1.lines in
    record {
      answer = c.in-Err-post_statement.ensures.answer ∙ checks_same amount (nasc_of (basis i)) same held room ∙ past_plan (is_stamp d m) (not (belongs st h.number is)) (open_at is (statement_key st)) i (rest d m n basis) (λ j. statement_checks held room (nasc_of (basis j))) found (numbered (not (is_stamp d m)) (not (belongs st h.number is)) d m n basis i) plan.answer;
      intervals = search rules;
      house = search rules;
      lines = search rules;
      book = c.in-Err-post_statement.ensures.refused;
      turns = search rules;
      conditions = c.in-Err-post_statement.ensures.conditions;
      statement = search rules;
    }

pub returns : goal.returns
returns g c =
    let d = c.args.call.now.days in
    let m = c.args.call.now.minute in
    let st = c.args.statement in
    let h = house_says c.args.house.now in
    let is = interval_rows c.args.intervals.now in
    let n = length c.args.lines.now in
    let basis = basis_by h c.args.rows.now in
    let held = g.B.Book.held c.args.book.now in
    let room = g.B.Book.room c.args.book.now in
    let plan = c.in-Ok.ensures in
    let i = plan.figures.0 in
    let found = plan.figures.1.0 in
    let amount = amount_of c.credits-amounts.result in
    let same = c.credits-amounts.ensures (basis i) plan.figures.1.1.lines in
    let posted = c.in_default.ensures in
    let new = c.post_statement.new.book in
    record {
      answer = posted.answer ∙ checks_same amount (nasc_of (basis i)) same held room ∙ past_plan (is_stamp d m) (not (belongs st h.number is)) (open_at is (statement_key st)) i (rest d m n basis) (λ j. statement_checks held room (nasc_of (basis j))) found (numbered (not (is_stamp d m)) (not (belongs st h.number is)) d m n basis i) plan.answer;
      intervals = ap interval_rows c.write.ensures ∙ plan.intervals;
      house = c.with_nothing_pending.ensures;
      lines = record {
        written = λ j e. begin_alike (basis j) c.in-Ok.plan.figures.lines c.write_lines.new.lines c.write_lines.ensures.first (subst (λ k. LinesAre (basis k) c.in-Ok.plan.figures.lines) (some_same i j (sym found ∙ e)) plan.figures.1.1.lines);
        beyond = c.write_lines.ensures.beyond;
      };
      book = λ j e. subst (λ k. Settled held room (nasc_of (basis k)) (g.B.Book.held new) (g.B.Book.room new)) (some_same i j (sym found ∙ e)) (settled_same amount (nasc_of (basis i)) same held room _ _ posted.accepted);
      turns = λ j e. subst (λ k. InTurn g.B.Book.held g.B.Book.room g.B.Book.takes (nasc_of (basis k)) accounts c.args.book.now new) (some_same i j (sym found ∙ e)) (turns_same amount (nasc_of (basis i)) same _ _ _ accounts _ _ (omega arith) posted.turns);
      conditions = posted.conditions;
      statement = tt;
    }
