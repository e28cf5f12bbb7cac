use Rattle.std.proofs.Common.{◌≡◌, ℕ, ℤ, not, eqb, leb, List, [], ◌∷◌, ◌++◌, ◌+ℤ◌, nat_abs, Some, sym, ap, ◌∙◌, lit<, rules}
use Rattle.std.specs.Option.{option_map}
use Rattle.units.specs.Checks.{Check, first_met}
use Rattle.units.specs.Ranges.{balance_range, inside}
use Rattle.units.specs.Stamps.{earlier, window}
use Rattle.units.specs.Windows.{window_number}
use Rattle.units.specs.declared.stamp.Stamp.{Stamp}
use Rattle.units.specs.declared.window.Window.{Window}
use Rattle.rows.specs.declared.correction.Correction.{Correction}
use Rattle.rows.specs.declared.phase.Phase.{Phase}
use Rattle.calls.specs.declared.StampedCall.{StampedCall}
use Rattle.register.proofs.Rows.{lookup_carries}
use Rattle.rows.specs.Meaning.{IntervalSaid, interval_named, interval_rows, interval_says}
use Rattle.rows.specs.Phases.{phase_number}
use Rattle.house.specs.Open.{before_last, check, if_open, in_phase, moved_to, open_at, put_row}
use Rattle.house.specs.State.{HouseState, house_says, key_of, with_pending}
use Rattle.house.proofs.Answering.{handed_on, passes, stops}
use Rattle.house.proofs.Plans.{moved_is, not_open, past_open}
use Rattle.statement.specs.Statements.{is_stamped, stamped_key}
use Rattle.statement.proofs.Stamps.{at_step}
use Rattle.settlement.specs.Steps.{adjusting_stamp, adjusts_by, from_phase, last_window, pending_check, to_phase}
use Rattle.settlement.proofs.adjusting.plan_adjustment.Goals as goal

-- the checks that depend on the interval
abbrev rest : Correction → StampedCall → HouseState → (IntervalSaid → ℕ → ℤ) → IntervalSaid → List Check
rest step call h adds i = adjusting_stamp step call i ++ pending_check h (adds i) ∷ []

at_stamp : (p : Phase) (w : Window) (step : Correction) (c : StampedCall) (s : Stamp) → s.days ≡ nat_abs c.days → s.minute ≡ nat_abs c.minute → (i : IntervalSaid) → p ≡ from_phase step → w ≡ last_window step
    → first_met (check 6 (earlier s.days s.minute i.days i.minute) ∷ check 7 (not (eqb (phase_number i.phase) (phase_number p))) ∷ check 8 (leb (window s.days s.minute) (window_number w)) ∷ []) ≡ first_met (adjusting_stamp step c i)
at_stamp p w step c s sd sm i e f =
    at_step (phase_number p) (window_number w) c.days c.minute s sd sm i
    ∙ ap (λ n. first_met (check 6 (before_last c.days c.minute i) ∷ check 7 (not (in_phase (phase_number n) i)) ∷ check 8 (leb (window (nat_abs c.days) (nat_abs c.minute)) (window_number w)) ∷ [])) e
    ∙ ap (λ n. first_met (check 6 (before_last c.days c.minute i) ∷ check 7 (not (in_phase (phase_number (from_phase step)) i)) ∷ check 8 (leb (window (nat_abs c.days) (nat_abs c.minute)) (window_number n)) ∷ [])) f

past_stamp : (step : Correction) (call : StampedCall) (i : IntervalSaid) (more : List Check) → 0 ≡ first_met (adjusting_stamp step call i) → first_met more ≡ first_met (adjusting_stamp step call i ++ more)
past_stamp step call i more h = passes (adjusting_stamp step call i) more (lit< tt, (lit< tt, (lit< tt, tt))) h

pub returns-in_err-taken : goal.returns-in_err-taken
returns-in_err-taken c =
    let step = c.args.correction in
    let call = c.args.call.now in
    let h = house_says c.args.house.now in
    let is = interval_rows c.args.intervals.now in
    let adds = adjusts_by step h c.args.readings.now in
    record {
      answer =
          handed_on c.from_residual.result c.in_err-taken.field-0.0 c.from_residual.ensures.1
          ∙ stops c.in_err-taken.field-0.0 (check 1 (not (is_stamped call)) ∷ []) (if_open (open_at is (stamped_key call)) (rest step call h adds)) c.in_err-taken.ensures.answer;
      intervals = search rules;
      planned = search rules;
    }

pub returns-in_err-opened : goal.returns-in_err-opened
returns-in_err-opened c =
    let step = c.args.correction in
    let call = c.args.call.now in
    let h = house_says c.args.house.now in
    let is = interval_rows c.args.intervals.now in
    let adds = adjusts_by step h c.args.readings.now in
    record {
      answer =
          handed_on c.from_residual-in_err-opened.result c.in_err-opened.field-0.0 c.from_residual-in_err-opened.ensures.1
          ∙ not_open c.in_err-opened.field-0.0 (not (is_stamped call)) (open_at is (stamped_key call)) (rest step call h adds) c.in_ok-taken.ensures.answer
          (c.in_err-opened.ensures.answer ∙ ap (λ k. first_met (if_open (open_at is k) (λ _. []))) c.in_ok-taken.ensures.half_hour);
      intervals = search rules;
      planned = search rules;
    }

pub returns-in_err-check_stamp : goal.returns-in_err-check_stamp
returns-in_err-check_stamp c =
    let step = c.args.correction in
    let call = c.args.call.now in
    let h = house_says c.args.house.now in
    let is = interval_rows c.args.intervals.now in
    let adds = adjusts_by step h c.args.readings.now in
    let i = interval_says c.in_ok-opened.opened.row in
    let found : open_at is (stamped_key call) ≡ Some i = ap (open_at is) (sym c.in_ok-taken.ensures.half_hour) ∙ c.in_ok-opened.ensures.found in
    let stamp = c.in_ok-taken.ensures.stamp in
    let s = c.in_ok-taken.taken.stamp in
    record {
      answer =
          handed_on c.from_residual-in_err-check_stamp.result c.in_err-check_stamp.field-0.0 c.from_residual-in_err-check_stamp.ensures.1
          ∙ stops c.in_err-check_stamp.field-0.0 (adjusting_stamp step call i) (pending_check h (adds i) ∷ []) (c.in_err-check_stamp.ensures ∙ at_stamp c.by-step.result.from c.by-step.result.early step call s stamp.0 stamp.1 i c.by-step.ensures.from c.by-step.ensures.early)
          ∙ past_open (not (is_stamped call)) (open_at is (stamped_key call)) i (rest step call h adds) c.in_ok-taken.ensures.answer found;
      intervals = search rules;
      planned = search rules;
    }

pub returns-in_err-house : goal.returns-in_err-house
returns-in_err-house c =
    let step = c.args.correction in
    let call = c.args.call.now in
    let h = house_says c.args.house.now in
    let is = interval_rows c.args.intervals.now in
    let adds = adjusts_by step h c.args.readings.now in
    let i = interval_says c.in_ok-opened.opened.row in
    let found : open_at is (stamped_key call) ≡ Some i = ap (open_at is) (sym c.in_ok-taken.ensures.half_hour) ∙ c.in_ok-opened.ensures.found in
    let stamp = c.in_ok-taken.ensures.stamp in
    let s = c.in_ok-taken.taken.stamp in
    record {
      answer =
          handed_on c.from_residual-in_err-house.result c.in_err-house.field-0.0 c.from_residual-in_err-house.ensures.1
          ∙ c.in_err-house.ensures.answer
          ∙ ap (λ z. first_met (check 15 (not (inside balance_range (h.pending +ℤ z))) ∷ [])) c.worked-worked.ensures.total
          ∙ past_stamp step call i (pending_check h (adds i) ∷ []) (c.in_ok-check_stamp.ensures ∙ at_stamp c.by-step.result.from c.by-step.result.early step call s stamp.0 stamp.1 i c.by-step.ensures.from c.by-step.ensures.early)
          ∙ past_open (not (is_stamped call)) (open_at is (stamped_key call)) i (rest step call h adds) c.in_ok-taken.ensures.answer found;
      intervals = search rules;
      planned = search rules;
    }

pub returns : goal.returns
returns c =
    let step = c.args.correction in
    let call = c.args.call.now in
    let h = house_says c.args.house.now in
    let is = interval_rows c.args.intervals.now in
    let adds = adjusts_by step h c.args.readings.now in
    let i = interval_says c.in_ok-opened.opened.row in
    let found : open_at is (stamped_key call) ≡ Some i = ap (open_at is) (sym c.in_ok-taken.ensures.half_hour) ∙ c.in_ok-opened.ensures.found in
    let stamp = c.in_ok-taken.ensures.stamp in
    let s = c.in_ok-taken.taken.stamp in
    let opened = c.in_ok-opened.opened.row in
    let moved = c.moved-row.result in
    let kept = c.moved-row.ensures.kept in
    record {
      answer =
          c.in_ok-house.ensures.answer
          ∙ ap (λ z. first_met (check 15 (not (inside balance_range (h.pending +ℤ z))) ∷ [])) c.worked-worked.ensures.total
          ∙ past_stamp step call i (pending_check h (adds i) ∷ []) (c.in_ok-check_stamp.ensures ∙ at_stamp c.by-step.result.from c.by-step.result.early step call s stamp.0 stamp.1 i c.by-step.ensures.from c.by-step.ensures.early)
          ∙ past_open (not (is_stamped call)) (open_at is (stamped_key call)) i (rest step call h adds) c.in_ok-taken.ensures.answer found;
      intervals =
          c.in_ok-opened.ensures.writes moved (ap key_of kept.0 ∙ lookup_carries interval_named is _ i c.in_ok-opened.ensures.found)
          ∙ ap (λ j. put_row interval_named is (Some j)) (moved_is call.days call.minute s stamp.0 stamp.1 opened moved (to_phase step) kept.0 kept.1 kept.2 kept.3 (c.moved-row.ensures.phase ∙ c.by-step.ensures.to) c.moved-row.ensures.last)
          ∙ ap (λ o. put_row interval_named is (option_map (moved_to (to_phase step) call.days call.minute) o)) (sym found);
      planned = record {
        interval = i;
        opened = found;
        house = c.in_ok-house.ensures.house ∙ ap (λ z. with_pending (h.pending +ℤ z) h) c.worked-worked.ensures.total;
        amounts = c.worked-worked.ensures.amounts;
      };
    }
