-- The checks of a step's stamp as it was handed in.
use Rattle.std.proofs.Common.{◌≡◌, ℕ, Bool, true, false, cond, not, eqb, leb, [], ◌∷◌, ℤ, nat_abs, refl, ap, ◌∙◌}
use Rattle.units.specs.Checks.{first_met}
use Rattle.units.specs.Stamps.{by_five, earlier, window}
use Rattle.units.specs.declared.stamp.Stamp.{Stamp}
use Rattle.calls.specs.declared.StampedCall.{StampedCall}
use Rattle.rows.specs.Meaning.{IntervalSaid}
use Rattle.rows.specs.Phases.{phase_number}
use Rattle.house.specs.Open.{before_last, check, in_phase}
use Rattle.statement.specs.Statements.{preliminary_stamp}

-- in a phase, past a window
pub at_step : (phase early : ℕ) (d m : ℤ) (s : Stamp) → s.days ≡ nat_abs d → s.minute ≡ nat_abs m → (i : IntervalSaid)
    → first_met (check 6 (earlier s.days s.minute i.days i.minute) ∷ check 7 (not (eqb (phase_number i.phase) phase)) ∷ check 8 (leb (window s.days s.minute) early) ∷ [])
    ≡ first_met (check 6 (before_last d m i) ∷ check 7 (not (in_phase phase i)) ∷ check 8 (leb (window (nat_abs d) (nat_abs m)) early) ∷ [])
at_step phase early d m s sd sm i = cc

-- the first window is no later than the first
first_window : (d m : ℕ) → leb (window d m) 1 ≡ eqb (window d m) 1
first_window d m = go (by_five d m 5) (by_five d m 9) (by_five d m 47) (by_five d m 252)
  where
    go : (a b c e : Bool) → leb (cond a 1 (cond b 2 (cond c 3 (cond e 4 5)))) 1 ≡ eqb (cond a 1 (cond b 2 (cond c 3 (cond e 4 5)))) 1
    go true b c e = refl
    go false true c e = refl
    go false false true e = refl
    go false false false true = refl
    go false false false false = refl

pub at_stamp : (c : StampedCall) (s : Stamp) → s.days ≡ nat_abs c.days → s.minute ≡ nat_abs c.minute → (i : IntervalSaid)
    → first_met (check 6 (earlier s.days s.minute i.days i.minute) ∷ check 7 (not (eqb (phase_number i.phase) 1)) ∷ check 8 (leb (window s.days s.minute) 1) ∷ []) ≡ first_met (preliminary_stamp c i)
at_stamp c s sd sm i =
    at_step 1 1 c.days c.minute s sd sm i
    ∙ ap (λ b. first_met (check 6 (before_last c.days c.minute i) ∷ check 7 (not (in_phase 1 i)) ∷ check 8 b ∷ [])) (first_window (nat_abs c.days) (nat_abs c.minute))
