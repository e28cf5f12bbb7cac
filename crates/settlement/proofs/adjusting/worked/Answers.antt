use Rattle.std.proofs.Common.{◌≡◌, ℕ, zero, suc, ◌-◌, List, get_or, Option, pos, ap, ◌∙◌, arith}
use Rattle.units.specs.Ranges.{Account, accounts}
use Rattle.units.specs.declared.quantity.Money.{Money}
use Rattle.book.specs.Statement.{amount_of}
use Rattle.figures.specs.Meaning.{amount_at}
use Rattle.formulas.specs.Adjustment.{nmea_of}
use Rattle.formulas.specs.Sums.{sum}
use Rattle.rows.specs.Meaning.{facility_rows, interval_says, load_rows}
use Rattle.settlement.specs.Moves.{moves_in}
use Rattle.gather.specs.Gathered.{injection_by, moves_at, withdrawal_by}
use Rattle.house.specs.State.{house_says}
use Rattle.rows.specs.Values.{after_value, before_value}
use Rattle.rows.specs.declared.correction.Correction.{Correction}
use Rattle.rows.specs.declared.facility.FacilityReading.{FacilityReading}
use Rattle.rows.specs.declared.interval.Interval.{Interval}
use Rattle.rows.specs.declared.load.LoadReading.{LoadReading}
use Rattle.settlement.proofs.Moving.{moves_said}
use Rattle.settlement.proofs.adjusting.worked.Goals as goal

moves_by : (step : Correction) (i : Interval) (o o' : ℕ) (fs : List (Option FacilityReading)) (ls : List (Option LoadReading)) → o ≡ o'
    → moves_at (injection_by step) (withdrawal_by step) i o fs ls ≡ moves_in (before_value step) (after_value step) o' (interval_says i) (facility_rows fs) (load_rows ls)
moves_by step = moves_said (before_value step) (after_value step)

-- an account's amount, by either numbering
same_amount : (ms : List Money) (a : ℕ) → Account a → amount_of ms a ≡ amount_at ms a
same_amount ms zero ok = absurd (omega arith)
same_amount ms (suc n) ok = ap (λ k. (get_or ms k (record { 0 = pos 0 })).0) (let e : suc n - 1 ≡ n = omega arith in e)

pub returns : goal.returns
returns c =
    let step = c.args.correction in
    let i = interval_says c.args.interval.now in
    let fs = facility_rows c.args.readings.now.facilities.now in
    let ls = load_rows c.args.readings.now.loads.now in
    let same = c.moves_of-differences.ensures ∙ moves_by step c.args.interval.now c.terms-terms.result.operator (house_says c.args.house.now).operator c.args.readings.now.facilities.now c.args.readings.now.loads.now c.terms-terms.ensures.house.1 in
    record {
      amounts = λ a ok. same_amount c.adjustments.result.amounts a ok ∙ c.adjustments.ensures.amounts a ok ∙ ap (λ m. nmea_of m a) same;
      total = c.adjustments.ensures.total ∙ ap (λ m. sum accounts (nmea_of m)) same;
    }
