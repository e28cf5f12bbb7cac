use Rattle.std.proofs.Common.{◌≡◌, ℕ, ◌≤◌, Bool, true, false, cond, not, ◌&&◌, eqb, ltb, leb, List, [], ◌∷◌, ◌++◌, ℤ, pos, nat_abs, Some, Option, sym, refl, ap, ◌∙◌, arith, lit<, rules}
use Rattle.std.specs.Option.{option_map}
use Rattle.std.proofs.lemmas.Bool.{false≢true}
use Rattle.std.proofs.lemmas.Bool.Decides.{nat_tests}
use Rattle.units.specs.Checks.{Check, first_met}
use Rattle.units.specs.Ranges.{accounts, inside, uplift_range}
use Rattle.units.specs.Stamps.{earlier, window}
use Rattle.units.specs.declared.stamp.Stamp.{Stamp}
use Rattle.formulas.specs.Basis.{Basis}
use Rattle.formulas.specs.Figures.{heua_of, heur_of, is_0, settling_checks, total_load, unfounded}
use Rattle.formulas.specs.Sums.{some_of}
use Rattle.register.proofs.Rows.{lookup_carries}
use Rattle.rows.specs.Meaning.{IntervalSaid, interval_named, interval_rows, interval_says}
use Rattle.rows.specs.declared.interval.Interval.{Interval}
use Rattle.rows.specs.declared.phase.Phase.TheVariants.{Final}
use Rattle.house.specs.Calls.{is_stamp}
use Rattle.house.specs.Open.{check, if_open, open_at, put_row}
use Rattle.house.specs.State.{house_says, key_of}
use Rattle.house.proofs.Answering.{handed_on, passes, stops, within}
use Rattle.house.proofs.Given.{as_given}
use Rattle.statement.specs.Finals.{final_stamp, finalised, statement_key}
use Rattle.statement.specs.Gathered.{basis_by}
use Rattle.statement.specs.Statements.{belongs}
use Rattle.statement.proofs.finalising.plan_final.Goals as goal

-- the checks that depend on the interval
abbrev rest : ℤ → ℤ → ℕ → (IntervalSaid → Basis) → IntervalSaid → List Check
rest d m n basis i = final_stamp d m i ++ check 11 (ltb n accounts) ∷ settling_checks (basis i)

-- past the stamp's range and the statement
past_two : (a b : Bool) (o : Option IntervalSaid) (i : IntervalSaid) (f : IntervalSaid → List Check) → true ≡ a → 0 ≡ first_met (check 5 b ∷ []) → o ≡ Some i → first_met (f i) ≡ first_met (check 1 (not a) ∷ check 5 b ∷ if_open o f)
past_two a b o i f g h e =
    ap (λ q. first_met (if_open q f)) (sym e)
    ∙ passes (check 5 b ∷ []) (if_open o f) (lit< tt, tt) h
    ∙ passes (check 1 (not a) ∷ []) (check 5 b ∷ if_open o f) (lit< tt, tt) (within a g)

at_stamp : (d m : ℤ) (s : Stamp) → s.days ≡ nat_abs d → s.minute ≡ nat_abs m → (i : IntervalSaid)
    → first_met (check 6 (earlier s.days s.minute i.days i.minute) ∷ check 8 (leb (window s.days s.minute) 2) ∷ []) ≡ first_met (final_stamp d m i)
at_stamp d m s sd sm i =
    ap (λ x. first_met (check 6 (earlier x s.minute i.days i.minute) ∷ check 8 (leb (window x s.minute) 2) ∷ [])) sd
    ∙ ap (λ y. first_met (check 6 (earlier (nat_abs d) y i.days i.minute) ∷ check 8 (leb (window (nat_abs d) y) 2) ∷ [])) sm

past_stamp : (d m : ℤ) (i : IntervalSaid) (more : List Check) → 0 ≡ first_met (final_stamp d m i) → first_met more ≡ first_met (final_stamp d m i ++ more)
past_stamp d m i more h = passes (final_stamp d m i) more (lit< tt, (lit< tt, tt)) h

past_lines : (n : ℕ) (more : List Check) → 0 ≡ first_met (check 11 (ltb n accounts) ∷ []) → first_met more ≡ first_met (check 11 (ltb n accounts) ∷ more)
past_lines n more h = passes (check 11 (ltb n accounts) ∷ []) more (lit< tt, tt) h

enough : (n : ℕ) → 0 ≡ first_met (check 11 (ltb n accounts) ∷ []) → accounts ≤ n
enough n h = grind (arith, nat_tests)

-- where a half hour can be settled its uplift rate lies within its limit
last_unmet : (a b i : Bool) → ◌≡◌ {A = ℕ} 0 (cond a 12 (cond b 13 (cond (not i) 14 0))) → i ≡ true
last_unmet true b i e = absurd (omega arith)
last_unmet false true i e = absurd (omega arith)
last_unmet false false true e = refl
last_unmet false false false e = absurd (omega arith)

rate_fine : (b : Basis) → 0 ≡ first_met (settling_checks b) → inside uplift_range (heur_of b) ≡ true
rate_fine b e = last_unmet (some_of accounts (unfounded b)) (eqb (total_load b) 0 && not (is_0 (heua_of b))) (inside uplift_range (heur_of b)) e

finalised_is : (i j k : Interval) (d m u : ℤ) (s : Stamp) → s.days ≡ nat_abs d → s.minute ≡ nat_abs m → (basis : IntervalSaid → Basis) → u ≡ heur_of (basis (interval_says i))
    → j.half_hour ≡ i.half_hour → j.usep ≡ i.usep → j.rate ≡ i.rate → j.phase ≡ Final → j.last ≡ s
    → k.half_hour ≡ j.half_hour → k.usep ≡ j.usep → k.rate ≡ j.rate → k.phase ≡ j.phase → k.last ≡ j.last → k.uplift ≡ Some u
    → interval_says k ≡ finalised d m basis (interval_says i)
finalised_is i j k d m u s sd sm basis ue h1 u1 r1 p1 l1 h2 u2 r2 p2 l2 q = cc

pub returns-in_err-check_stamp : goal.returns-in_err-check_stamp
returns-in_err-check_stamp c =
    let d = c.args.call.now.days in
    let m = c.args.call.now.minute in
    let st = c.args.statement.now in
    let h = house_says c.args.house.now in
    let is = interval_rows c.args.intervals.now in
    let basis = basis_by h c.args.rows.now in
    let good : true ≡ is_stamp d m = search rules in
    let days : pos c.in_ok-stamp.stamp.days ≡ d = search rules in
    let minute : pos c.in_ok-stamp.stamp.minute ≡ m = search rules in
    let s = c.in_ok-stamp.stamp in
    let i = interval_says c.in_ok-opened.opened.row in
    let found : open_at is (statement_key st) ≡ Some i = c.in_ok-opened.ensures.found in
    let stamp = at_stamp d m s (as_given _ _ days) (as_given _ _ minute) i in
    record {
      answer =
          handed_on c.from_residual-in_err-check_stamp.result c.in_err-check_stamp.field-0.0 c.from_residual-in_err-check_stamp.ensures.1
          ∙ stops c.in_err-check_stamp.field-0.0 (final_stamp d m i) (check 11 (ltb c.args.count accounts) ∷ settling_checks (basis i)) (c.in_err-check_stamp.ensures ∙ stamp)
          ∙ past_two (is_stamp d m) (not (belongs st h.number is)) (open_at is (statement_key st)) i (rest d m c.args.count basis) good c.in_ok-opened.ensures.answer found;
      intervals = search rules;
      figures = search rules;
      lines = search rules;
    }

pub returns-in_err-check_lines : goal.returns-in_err-check_lines
returns-in_err-check_lines c =
    let d = c.args.call.now.days in
    let m = c.args.call.now.minute in
    let st = c.args.statement.now in
    let h = house_says c.args.house.now in
    let is = interval_rows c.args.intervals.now in
    let basis = basis_by h c.args.rows.now in
    let good : true ≡ is_stamp d m = search rules in
    let days : pos c.in_ok-stamp.stamp.days ≡ d = search rules in
    let minute : pos c.in_ok-stamp.stamp.minute ≡ m = search rules in
    let s = c.in_ok-stamp.stamp in
    let i = interval_says c.in_ok-opened.opened.row in
    let found : open_at is (statement_key st) ≡ Some i = c.in_ok-opened.ensures.found in
    let stamp = at_stamp d m s (as_given _ _ days) (as_given _ _ minute) i in
    record {
      answer =
          handed_on c.from_residual-in_err-check_lines.result c.in_err-check_lines.field-0.0 c.from_residual-in_err-check_lines.ensures.1
          ∙ stops c.in_err-check_lines.field-0.0 (check 11 (ltb c.args.count accounts) ∷ []) (settling_checks (basis i)) c.in_err-check_lines.ensures
          ∙ past_stamp d m i (check 11 (ltb c.args.count accounts) ∷ settling_checks (basis i)) (c.in_ok-check_stamp.ensures ∙ stamp)
          ∙ past_two (is_stamp d m) (not (belongs st h.number is)) (open_at is (statement_key st)) i (rest d m c.args.count basis) good c.in_ok-opened.ensures.answer found;
      intervals = search rules;
      figures = search rules;
      lines = search rules;
    }

pub returns-in_err-figures : goal.returns-in_err-figures
returns-in_err-figures c =
    let d = c.args.call.now.days in
    let m = c.args.call.now.minute in
    let st = c.args.statement.now in
    let h = house_says c.args.house.now in
    let is = interval_rows c.args.intervals.now in
    let basis = basis_by h c.args.rows.now in
    let good : true ≡ is_stamp d m = search rules in
    let days : pos c.in_ok-stamp.stamp.days ≡ d = search rules in
    let minute : pos c.in_ok-stamp.stamp.minute ≡ m = search rules in
    let s = c.in_ok-stamp.stamp in
    let i = interval_says c.in_ok-opened.opened.row in
    let found : open_at is (statement_key st) ≡ Some i = c.in_ok-opened.ensures.found in
    let stamp = at_stamp d m s (as_given _ _ days) (as_given _ _ minute) i in
    record {
      answer =
          handed_on c.from_residual-in_err-figures.result c.in_err-figures.field-0.0 c.from_residual-in_err-figures.ensures.1
          ∙ c.in_err-figures.ensures.answer
          ∙ past_lines c.args.count (settling_checks (basis i)) c.in_ok-check_lines.ensures
          ∙ past_stamp d m i (check 11 (ltb c.args.count accounts) ∷ settling_checks (basis i)) (c.in_ok-check_stamp.ensures ∙ stamp)
          ∙ past_two (is_stamp d m) (not (belongs st h.number is)) (open_at is (statement_key st)) i (rest d m c.args.count basis) good c.in_ok-opened.ensures.answer found;
      intervals = search rules;
      figures = search rules;
      lines = search rules;
    }

pub returns-in_err-row : goal.returns-in_err-row
returns-in_err-row c =
    let d = c.args.call.now.days in
    let m = c.args.call.now.minute in
    let st = c.args.statement.now in
    let h = house_says c.args.house.now in
    let is = interval_rows c.args.intervals.now in
    let basis = basis_by h c.args.rows.now in
    let good : true ≡ is_stamp d m = search rules in
    let days : pos c.in_ok-stamp.stamp.days ≡ d = search rules in
    let minute : pos c.in_ok-stamp.stamp.minute ≡ m = search rules in
    let s = c.in_ok-stamp.stamp in
    let i = interval_says c.in_ok-opened.opened.row in
    let found : open_at is (statement_key st) ≡ Some i = c.in_ok-opened.ensures.found in
    let stamp = at_stamp d m s (as_given _ _ days) (as_given _ _ minute) i in
    let rate = c.in_ok-figures.ensures.figures.uplift.rate in
    let fine = rate_fine (basis i) c.in_ok-figures.ensures.answer in
    absurd (false≢true (c.in_err-row.ensures.accepts ∙ ap (inside uplift_range) rate ∙ fine))

pub returns : goal.returns
returns c =
    let d = c.args.call.now.days in
    let m = c.args.call.now.minute in
    let st = c.args.statement.now in
    let h = house_says c.args.house.now in
    let is = interval_rows c.args.intervals.now in
    let basis = basis_by h c.args.rows.now in
    let good : true ≡ is_stamp d m = search rules in
    let days : pos c.in_ok-stamp.stamp.days ≡ d = search rules in
    let minute : pos c.in_ok-stamp.stamp.minute ≡ m = search rules in
    let s = c.in_ok-stamp.stamp in
    let i = interval_says c.in_ok-opened.opened.row in
    let found : open_at is (statement_key st) ≡ Some i = c.in_ok-opened.ensures.found in
    let stamp = at_stamp d m s (as_given _ _ days) (as_given _ _ minute) i in
    let moved = c.moved-moved.ensures in
    let made = c.in_ok-row.ensures.made in
    let opened = c.in_ok-opened.opened.row in
    record {
      answer =
          c.in_ok-figures.ensures.answer
          ∙ past_lines c.args.count (settling_checks (basis i)) c.in_ok-check_lines.ensures
          ∙ past_stamp d m i (check 11 (ltb c.args.count accounts) ∷ settling_checks (basis i)) (c.in_ok-check_stamp.ensures ∙ stamp)
          ∙ past_two (is_stamp d m) (not (belongs st h.number is)) (open_at is (statement_key st)) i (rest d m c.args.count basis) good c.in_ok-opened.ensures.answer found;
      intervals =
          c.in_ok-opened.ensures.writes c.in_ok-row.row (ap key_of (made.0 ∙ moved.kept.0) ∙ lookup_carries interval_named is (statement_key st) i found)
          ∙ ap (λ j. put_row interval_named is (Some j)) (finalised_is opened c.moved-moved.result c.in_ok-row.row d m _ s (as_given _ _ days) (as_given _ _ minute) basis c.in_ok-figures.ensures.figures.uplift.rate moved.kept.0 moved.kept.1 moved.kept.2 moved.phase moved.last made.0 made.1 made.2 made.3 made.4 made.5)
          ∙ ap (λ o. put_row interval_named is (option_map (finalised d m basis) o)) (sym found);
      figures = (i, (found, c.in_ok-figures.ensures.figures));
      lines = enough c.args.count c.in_ok-check_lines.ensures;
    }
