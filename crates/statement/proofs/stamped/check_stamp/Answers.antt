use Rattle.std.proofs.Common.{◌≡◌, ℕ, Bool, true, false, cond, not, eqb, leb, List, [], ◌∷◌, sym, refl, ap, ◌∙◌, ⊎_elim, lit<, rules}
use Rattle.std.proofs.lemmas.Bool.{cases_Bool, eqb-false, eqb-true}
use denote.Enum.Bare.{false_same, sameb, true_same}
use Rattle.units.specs.Checks.{Check, first_met}
use Rattle.units.specs.Stamps.{earlier, window}
use Rattle.units.specs.Windows.{window_number}
use Rattle.rows.specs.Phases.{phase_number}
use Rattle.rows.specs.contracts.phase.Phase.{the_type}
use Rattle.rows.specs.declared.phase.Phase.{Phase}
use Rattle.rows.specs.declared.phase.Phase.TheVariants.{Reading, Preliminary, Final, FirstAdjusted, SecondAdjusted}
use Rattle.house.specs.Open.{check}
use Rattle.house.proofs.Answering.{handed_on, passes, stops}
use Rattle.statement.proofs.stamped.check_stamp.Goals as goal

-- the phase of a number
phase_at : ℕ → Phase
phase_at n = cond (eqb n 1) Reading (cond (eqb n 2) Preliminary (cond (eqb n 3) Final (cond (eqb n 4) FirstAdjusted SecondAdjusted)))

back : (p : Phase) → phase_at (phase_number p) ≡ p
unfolding phase_at
back Reading = refl
back Preliminary = refl
back Final = refl
back FirstAdjusted = refl
back SecondAdjusted = refl

-- two phases are the same where their numbers are
same_phase : (p q : Phase) → sameb the_type p q ≡ eqb (phase_number p) (phase_number q)
same_phase p q =
    ⊎_elim (λ e. true_same the_type p q (sym (back p) ∙ ap phase_at (eqb-true _ _ e) ∙ back q) ∙ sym e)
    (λ e. false_same the_type (search rules) p q (λ f. eqb-false _ _ e (ap phase_number f)) ∙ sym e)
    (cases_Bool (eqb (phase_number p) (phase_number q)))

-- a check that is met after one that is not, and one more that is not
second_met : (a b : Bool) (more : List Check) → ◌≡◌ {A = ℕ} 0 (cond a 6 0) → b ≡ true → 7 ≡ first_met (check 6 a ∷ check 7 b ∷ more)
second_met a b more g h = ap (λ x. first_met (check 7 x ∷ more)) (sym h) ∙ passes (check 6 a ∷ []) (check 7 b ∷ more) (lit< tt, tt) g

neither_met : (a b : Bool) → ◌≡◌ {A = ℕ} 0 (cond a 6 0) → b ≡ false → 0 ≡ first_met (check 6 a ∷ check 7 b ∷ [])
neither_met a b g h = ap (λ x. first_met (check 7 x ∷ [])) (sym h) ∙ passes (check 6 a ∷ []) (check 7 b ∷ []) (lit< tt, tt) g

pub returns-in_err-check_last : goal.returns-in_err-check_last
returns-in_err-check_last c =
    let s = c.args.stamp in
    let i = c.args.interval.now in
    handed_on c.from_residual.result c.in_err-check_last.field-0.0 c.from_residual.ensures.1
    ∙ stops c.in_err-check_last.field-0.0 (check 6 (earlier s.days s.minute i.last.days i.last.minute) ∷ [])
    (check 7 (not (eqb (phase_number i.phase) (phase_number c.args.phase))) ∷ check 8 (leb (window s.days s.minute) (window_number c.args.early)) ∷ []) c.in_err-check_last.ensures

pub returns-then-ne : goal.returns-then-ne
returns-then-ne c =
    let s = c.args.stamp in
    let i = c.args.interval.now in
    second_met (earlier s.days s.minute i.last.days i.last.minute) (not (eqb (phase_number i.phase) (phase_number c.args.phase)))
    (check 8 (leb (window s.days s.minute) (window_number c.args.early)) ∷ []) c.in_ok-check_last.ensures
    (ap not (sym (same_phase i.phase c.args.phase)) ∙ sym c.ne.ensures ∙ c.if-ne.true)

pub returns : goal.returns
returns c =
    let s = c.args.stamp in
    let i = c.args.interval.now in
    let a = earlier s.days s.minute i.last.days i.last.minute in
    let b = not (eqb (phase_number i.phase) (phase_number c.args.phase)) in
    c.check_window.ensures
    ∙ passes (check 6 a ∷ check 7 b ∷ []) (check 8 (leb (window s.days s.minute) (window_number c.args.early)) ∷ []) (lit< tt, (lit< tt, tt))
    (neither_met a b c.in_ok-check_last.ensures (ap not (sym (same_phase i.phase c.args.phase)) ∙ sym c.ne.ensures ∙ c.if-ne.false))
