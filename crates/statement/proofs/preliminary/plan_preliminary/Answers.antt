use Rattle.std.proofs.Common.{◌≡◌, ℕ, ◌≤◌, not, ltb, List, [], ◌∷◌, ◌++◌, Some, sym, ap, ◌∙◌, subst, arith, lit<, rules}
use Rattle.std.specs.Option.{option_map}
use Rattle.std.proofs.lemmas.Bool.Decides.{nat_tests}
use Rattle.units.specs.Checks.{Check, first_met}
use Rattle.units.specs.Ranges.{accounts}
use Rattle.figures.specs.Settled.{FiguresAre}
use Rattle.formulas.specs.Basis.{Basis}
use Rattle.formulas.specs.Figures.{settling_checks}
use Rattle.calls.specs.declared.StampedCall.{StampedCall}
use Rattle.register.proofs.Rows.{lookup_carries}
use Rattle.rows.specs.Meaning.{IntervalSaid, interval_named, interval_rows, interval_says}
use Rattle.rows.specs.declared.phase.Phase.TheVariants.{Preliminary}
use Rattle.house.specs.Open.{check, if_open, moved_to, open_at, put_row}
use Rattle.house.specs.State.{house_says, key_of}
use Rattle.house.proofs.Answering.{handed_on, passes, stops}
use Rattle.house.proofs.Plans.{moved_is, not_open, past_open}
use Rattle.statement.specs.Gathered.{basis_by}
use Rattle.statement.specs.Statements.{is_stamped, preliminary_stamp, stamped_key}
use Rattle.statement.proofs.Stamps.{at_stamp}
use Rattle.statement.proofs.preliminary.plan_preliminary.Goals as goal

-- the checks that depend on the interval
abbrev rest : StampedCall → ℕ → (IntervalSaid → Basis) → IntervalSaid → List Check
rest call n basis i = preliminary_stamp call i ++ (check 11 (ltb n accounts) ∷ settling_checks (basis i))

-- past the checks of the stamp, and past that of the lines
past_stamp : (call : StampedCall) (i : IntervalSaid) (more : List Check) → 0 ≡ first_met (preliminary_stamp call i) → first_met more ≡ first_met (preliminary_stamp call i ++ more)
past_stamp call i more h = passes (preliminary_stamp call i) more (lit< tt, (lit< tt, (lit< tt, tt))) h

past_lines : (n : ℕ) (more : List Check) → 0 ≡ first_met (check 11 (ltb n accounts) ∷ []) → first_met more ≡ first_met (check 11 (ltb n accounts) ∷ more)
past_lines n more h = passes (check 11 (ltb n accounts) ∷ []) more (lit< tt, tt) h

some_same : (i j : IntervalSaid) → Some i ≡ Some j → i ≡ j
some_same i j e = cc

enough : (n : ℕ) → 0 ≡ first_met (check 11 (ltb n accounts) ∷ []) → accounts ≤ n
enough n h = grind (arith, nat_tests)

pub returns-in_err-taken : goal.returns-in_err-taken
returns-in_err-taken c =
    let call = c.args.call.now in
    let h = house_says c.args.house.now in
    let is = interval_rows c.args.intervals.now in
    let basis = basis_by h c.args.rows.now in
    record {
      answer =
          handed_on c.from_residual.result c.in_err-taken.field-0.0 c.from_residual.ensures.1
          ∙ stops c.in_err-taken.field-0.0 (check 1 (not (is_stamped call)) ∷ []) (if_open (open_at is (stamped_key call)) (rest call c.args.count basis)) c.in_err-taken.ensures.answer;
      intervals = search rules;
      figures = search rules;
      half_hour = search rules;
      lines = search rules;
    }

pub returns-in_err-opened : goal.returns-in_err-opened
returns-in_err-opened c =
    let call = c.args.call.now in
    let h = house_says c.args.house.now in
    let is = interval_rows c.args.intervals.now in
    let basis = basis_by h c.args.rows.now in
    record {
      answer =
          handed_on c.from_residual-in_err-opened.result c.in_err-opened.field-0.0 c.from_residual-in_err-opened.ensures.1
          ∙ not_open c.in_err-opened.field-0.0 (not (is_stamped call)) (open_at is (stamped_key call)) (rest call c.args.count basis) c.in_ok-taken.ensures.answer
          (c.in_err-opened.ensures.answer ∙ ap (λ k. first_met (if_open (open_at is k) (λ _. []))) c.in_ok-taken.ensures.half_hour);
      intervals = search rules;
      figures = search rules;
      half_hour = search rules;
      lines = search rules;
    }

pub returns-in_err-check_stamp : goal.returns-in_err-check_stamp
returns-in_err-check_stamp c =
    let call = c.args.call.now in
    let h = house_says c.args.house.now in
    let is = interval_rows c.args.intervals.now in
    let basis = basis_by h c.args.rows.now in
    let i = interval_says c.in_ok-opened.opened.row in
    let found : open_at is (stamped_key call) ≡ Some i = ap (open_at is) (sym c.in_ok-taken.ensures.half_hour) ∙ c.in_ok-opened.ensures.found in
    let stamp = c.in_ok-taken.ensures.stamp in
    let s = c.in_ok-taken.taken.stamp in
    record {
      answer =
          handed_on c.from_residual-in_err-check_stamp.result c.in_err-check_stamp.field-0.0 c.from_residual-in_err-check_stamp.ensures.1
          ∙ stops c.in_err-check_stamp.field-0.0 (preliminary_stamp call i) (check 11 (ltb c.args.count accounts) ∷ settling_checks (basis i)) (c.in_err-check_stamp.ensures ∙ at_stamp call s stamp.0 stamp.1 i)
          ∙ past_open (not (is_stamped call)) (open_at is (stamped_key call)) i (rest call c.args.count basis) c.in_ok-taken.ensures.answer found;
      intervals = search rules;
      figures = search rules;
      half_hour = search rules;
      lines = search rules;
    }

pub returns-in_err-check_lines : goal.returns-in_err-check_lines
returns-in_err-check_lines c =
    let call = c.args.call.now in
    let h = house_says c.args.house.now in
    let is = interval_rows c.args.intervals.now in
    let basis = basis_by h c.args.rows.now in
    let i = interval_says c.in_ok-opened.opened.row in
    let found : open_at is (stamped_key call) ≡ Some i = ap (open_at is) (sym c.in_ok-taken.ensures.half_hour) ∙ c.in_ok-opened.ensures.found in
    let stamp = c.in_ok-taken.ensures.stamp in
    let s = c.in_ok-taken.taken.stamp in
    record {
      answer =
          handed_on c.from_residual-in_err-check_lines.result c.in_err-check_lines.field-0.0 c.from_residual-in_err-check_lines.ensures.1
          ∙ stops c.in_err-check_lines.field-0.0 (check 11 (ltb c.args.count accounts) ∷ []) (settling_checks (basis i)) c.in_err-check_lines.ensures
          ∙ past_stamp call i (check 11 (ltb c.args.count accounts) ∷ settling_checks (basis i)) (c.in_ok-check_stamp.ensures ∙ at_stamp call s stamp.0 stamp.1 i)
          ∙ past_open (not (is_stamped call)) (open_at is (stamped_key call)) i (rest call c.args.count basis) c.in_ok-taken.ensures.answer found;
      intervals = search rules;
      figures = search rules;
      half_hour = search rules;
      lines = search rules;
    }

pub returns-in_err-figures : goal.returns-in_err-figures
returns-in_err-figures c =
    let call = c.args.call.now in
    let h = house_says c.args.house.now in
    let is = interval_rows c.args.intervals.now in
    let basis = basis_by h c.args.rows.now in
    let i = interval_says c.in_ok-opened.opened.row in
    let found : open_at is (stamped_key call) ≡ Some i = ap (open_at is) (sym c.in_ok-taken.ensures.half_hour) ∙ c.in_ok-opened.ensures.found in
    let stamp = c.in_ok-taken.ensures.stamp in
    let s = c.in_ok-taken.taken.stamp in
    record {
      answer =
          handed_on c.from_residual-in_err-figures.result c.in_err-figures.field-0.0 c.from_residual-in_err-figures.ensures.1
          ∙ c.in_err-figures.ensures.answer
          ∙ past_lines c.args.count (settling_checks (basis i)) c.in_ok-check_lines.ensures
          ∙ past_stamp call i (check 11 (ltb c.args.count accounts) ∷ settling_checks (basis i)) (c.in_ok-check_stamp.ensures ∙ at_stamp call s stamp.0 stamp.1 i)
          ∙ past_open (not (is_stamped call)) (open_at is (stamped_key call)) i (rest call c.args.count basis) c.in_ok-taken.ensures.answer found;
      intervals = search rules;
      figures = search rules;
      half_hour = search rules;
      lines = search rules;
    }

pub returns : goal.returns
returns c =
    let call = c.args.call.now in
    let h = house_says c.args.house.now in
    let is = interval_rows c.args.intervals.now in
    let basis = basis_by h c.args.rows.now in
    let i = interval_says c.in_ok-opened.opened.row in
    let found : open_at is (stamped_key call) ≡ Some i = ap (open_at is) (sym c.in_ok-taken.ensures.half_hour) ∙ c.in_ok-opened.ensures.found in
    let stamp = c.in_ok-taken.ensures.stamp in
    let s = c.in_ok-taken.taken.stamp in
    let opened = c.in_ok-opened.opened.row in
    let moved = c.moved-row.result in
    let kept = c.moved-row.ensures.kept in
    record {
      answer =
          c.in_ok-figures.ensures.answer
          ∙ past_lines c.args.count (settling_checks (basis i)) c.in_ok-check_lines.ensures
          ∙ past_stamp call i (check 11 (ltb c.args.count accounts) ∷ settling_checks (basis i)) (c.in_ok-check_stamp.ensures ∙ at_stamp call s stamp.0 stamp.1 i)
          ∙ past_open (not (is_stamped call)) (open_at is (stamped_key call)) i (rest call c.args.count basis) c.in_ok-taken.ensures.answer found;
      intervals =
          c.in_ok-opened.ensures.writes moved (ap key_of kept.0 ∙ lookup_carries interval_named is _ i c.in_ok-opened.ensures.found)
          ∙ ap (λ j. put_row interval_named is (Some j)) (moved_is call.days call.minute s stamp.0 stamp.1 opened moved Preliminary kept.0 kept.1 kept.2 kept.3 c.moved-row.ensures.phase c.moved-row.ensures.last)
          ∙ ap (λ o. put_row interval_named is (option_map (moved_to Preliminary call.days call.minute) o)) (sym found);
      figures = λ j e. let same : i ≡ j = some_same i j (sym found ∙ e) in subst (λ k. FiguresAre (basis k) c.in_ok-figures.figures) same c.in_ok-figures.ensures.figures;
      half_hour = c.in_ok-taken.ensures.half_hour;
      lines = enough c.args.count c.in_ok-check_lines.ensures;
    }
