use Rattle.std.proofs.Common.{◌≡◌, ℕ, not, List, [], ◌∷◌, is_some, Some, Option, sym, refl, ap, ◌∙◌, lit<, rules}
use Rattle.units.specs.Checks.{Check, first_met}
use Rattle.calls.specs.declared.IntervalCall.{IntervalCall}
use Rattle.register.specs.Keys.{Numbers}
use Rattle.register.specs.Rows.{place, placed}
use Rattle.register.proofs.Mapped.{place_mapped, placed_mapped}
use Rattle.rows.specs.Meaning.{IntervalSaid, interval_named, interval_rows, interval_says}
use Rattle.rows.specs.declared.interval.Interval.{Interval}
use Rattle.house.specs.Calls.{half_hour_key, interval_given, is_interval}
use Rattle.house.specs.Open.{check}
use Rattle.house.specs.Rows.{not_after}
use Rattle.house.specs.State.{HouseState, house_says}
use Rattle.house.proofs.Answering.{handed_on, passes, stops}
use Rattle.house.proofs.state.House.open_interval.Goals as goal

abbrev carried : Interval → Numbers
carried i = (interval_says i).key

abbrev key : IntervalCall → Numbers
key call = half_hour_key call.day call.interval

abbrev three : IntervalCall → Option Numbers → Check
three call latest = check 3 (not_after (key call) latest)

abbrev ten : IntervalCall → List (Option IntervalSaid) → Check
ten call is = check 10 (not (is_some (place interval_named is (key call))))

-- a key as it was handed in
given_key : (i : Interval) (call : IntervalCall) → interval_says i ≡ interval_given call → carried i ≡ key call
given_key i call e = ap (λ r. r.key) e

pub returns-in_err-interval : goal.returns-in_err-interval
returns-in_err-interval c =
    let call = c.args.call.now in
    let h = house_says c.args.self.now in
    let is = interval_rows c.args.intervals.now in
    record {
      answer =
          handed_on c.from_residual.result c.in_err-interval.field-0.0 c.from_residual.ensures.1
          ∙ stops c.in_err-interval.field-0.0 (check 1 (not (is_interval call)) ∷ []) (three call h.latest ∷ ten call is ∷ []) c.in_err-interval.ensures.answer;
      house = search rules;
      intervals = search rules;
    }

pub returns-in_err-check_after : goal.returns-in_err-check_after
returns-in_err-check_after c =
    let call = c.args.call.now in
    let h = house_says c.args.self.now in
    let is = interval_rows c.args.intervals.now in
    let k = given_key c.in_ok-interval.interval call c.in_ok-interval.ensures.row in
    record {
      answer =
          handed_on c.from_residual-in_err-check_after.result c.in_err-check_after.field-0.0 c.from_residual-in_err-check_after.ensures.1
          ∙ stops c.in_err-check_after.field-0.0 (three call h.latest ∷ []) (ten call is ∷ []) (c.in_err-check_after.ensures ∙ ap (λ q. first_met (check 3 (not_after q h.latest) ∷ [])) k)
          ∙ passes (check 1 (not (is_interval call)) ∷ []) (three call h.latest ∷ ten call is ∷ []) (lit< tt, tt) c.in_ok-interval.ensures.answer;
      house = search rules;
      intervals = search rules;
    }

-- the answer once only the place is left to decide
last_check : (call : IntervalCall) (latest : Option Numbers) (rows : List (Option Interval)) (i : Interval) (n : ℕ) → carried i ≡ key call
    → 0 ≡ first_met (check 1 (not (is_interval call)) ∷ []) → 0 ≡ first_met (check 3 (not_after (carried i) latest) ∷ []) → n ≡ first_met (check 10 (not (is_some (place carried rows (carried i)))) ∷ [])
    → n ≡ first_met (check 1 (not (is_interval call)) ∷ three call latest ∷ ten call (interval_rows rows) ∷ [])
last_check call latest rows i n k one after h =
    h ∙ ap (λ o. first_met (check 10 (not (is_some o)) ∷ [])) (ap (place carried rows) k ∙ sym (place_mapped carried interval_named interval_says (λ r. refl) rows (key call)))
    ∙ passes (three call latest ∷ []) (ten call (interval_rows rows) ∷ []) (lit< tt, tt) (after ∙ ap (λ q. first_met (check 3 (not_after q latest) ∷ [])) k)
    ∙ passes (check 1 (not (is_interval call)) ∷ []) (three call latest ∷ ten call (interval_rows rows) ∷ []) (lit< tt, tt) one

pub returns-in_err-put_row : goal.returns-in_err-put_row
returns-in_err-put_row c =
    let call = c.args.call.now in
    let h = house_says c.args.self.now in
    let k = given_key c.in_ok-interval.interval call c.in_ok-interval.ensures.row in
    record {
      answer =
          handed_on c.from_residual-in_err-put_row.result c.in_err-put_row.field-0.0 c.from_residual-in_err-put_row.ensures.1
          ∙ last_check call h.latest c.args.intervals.now c.in_ok-interval.interval _ k c.in_ok-interval.ensures.answer c.in_ok-check_after.ensures c.in_err-put_row.ensures.answer;
      house = search rules;
      intervals = search rules;
    }

pub returns : goal.returns
returns c =
    let call = c.args.call.now in
    let h = house_says c.args.self.now in
    let rows = c.args.intervals.now in
    let i = c.in_ok-interval.interval in
    let given = c.in_ok-interval.ensures.row in
    let k = given_key i call given in
    record {
      answer = last_check call h.latest rows i _ k c.in_ok-interval.ensures.answer c.in_ok-check_after.ensures c.in_ok-put_row.ensures.answer;
      house = ap {B = HouseState} (λ q. record { number = h.number; participants = h.participants; counterparty = h.counterparty; operator = h.operator; latest = Some q; pending = h.pending }) k;
      intervals = ap interval_rows c.in_ok-put_row.ensures.rows ∙ placed_mapped carried interval_named interval_says (λ r. refl) rows i ∙ ap (placed interval_named (interval_rows rows)) given;
    }
