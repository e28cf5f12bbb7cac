-- Worked cases of the formulas, in millicents, cents per MWh and kWh.
use Rattle.std.specs.Prelude.{◌≡◌, ℕ, cond, List, [], ◌∷◌, ℤ, pos, ◌+ℤ◌, neg_ℤ, Some, None, Option, ◌==◌}
use Rattle.units.specs.Division.{whole_cents}
use Rattle.units.specs.Ranges.{accounts}
use Rattle.units.specs.Stamps.{window}
use Rattle.formulas.specs.Adjustment.{Moves, nmea_of}
use Rattle.formulas.specs.Basis.{Basis, Injection, Withdrawal}
use Rattle.formulas.specs.Figures.{gesc_of, lesd_of, beq_of, bsc_of, vcrp_of, vcsc_of, fee_of, heua_of, heur_of, heuc_of, nasc_of, is_0}
use Rattle.formulas.specs.Sums.{sum}

-- x at the number n, and nothing elsewhere
abbrev only : {X : Type 0} → ℕ → X → ℕ → Option X
only n x m = cond (m == n) (Some x) None

-- x at the number n, and elsewhere what was there
abbrev with_also : {X : Type 0} → ℕ → X → (ℕ → Option X) → ℕ → Option X
with_also n x before m = cond (m == n) (Some x) (before m)

-- nothing at any number
abbrev nothing : {X : Type 0} → ℕ → Option X
nothing m = None

-- a reading of a facility
abbrev read : ℕ → ℤ → ℤ → Injection
read account mep ieq = record { account = account; mep = mep; ieq = ieq }

-- a load that pays fees on all that it withdrew
abbrev drawn : ℤ → Withdrawal
drawn q = record { weq = q; wfq = q }

-- the half hour that most cases stand on
abbrev worked_half_hour : Basis
worked_half_hour = record {
  usep = pos 10000;
  rate = pos 40;
  facility = only 1 (read 1 (pos 9800) (pos 1000));
  load = with_also 2 (drawn (pos 600)) (only 3 (drawn (pos 390)));
  contract = only 1 (record { seller = 1; buyer = 2; baq = pos 100; bwf = 2500; bif = 0 });
  vesting = λ a t. cond (a == 1) (only 0 (record { price = pos 12000; quantity = pos 500 }) t) None;
  counterparty = 4;
  operator = 5;
  pending = pos 0;
}

-- the figures of an account in that half hour
abbrev line : ℕ → List ℤ
line a = gesc_of worked_half_hour a ∷ lesd_of worked_half_hour a ∷ bsc_of worked_half_hour a ∷ vcsc_of worked_half_hour a ∷ fee_of worked_half_hour a ∷ heuc_of worked_half_hour a ∷ nasc_of worked_half_hour a ∷ []

-- a half hour with these facilities and loads, and nothing else but what is pending
abbrev bare : (ℕ → Option Injection) → (ℕ → Option Withdrawal) → ℤ → Basis
bare facility load pending = record {
  usep = pos 0;
  rate = pos 0;
  facility = facility;
  load = load;
  contract = nothing;
  vesting = λ a t. None;
  counterparty = 4;
  operator = 5;
  pending = pending;
}

-- three loads of 1 kWh under that uplift
abbrev thirds : ℤ → Basis
thirds uplift = bare nothing (with_also 1 (drawn (pos 1)) (with_also 2 (drawn (pos 1)) (only 3 (drawn (pos 1))))) uplift

-- the uplift and the shares of the first three accounts
abbrev shares : Basis → List ℤ
shares i = heua_of i ∷ heuc_of i 1 ∷ heuc_of i 2 ∷ heuc_of i 3 ∷ []

-- the reference price of two facilities
abbrev two_prices : ℤ → ℤ → ℤ → ℤ → ℤ
two_prices p q x y = vcrp_of (bare (with_also 1 (read 1 p x) (only 2 (read 1 q y))) nothing (pos 0)) 1

-- the first correction of the half hour: the injection 990 in place of 1,000, the load of account 3 400 in place of 390
abbrev first : Moves
first = record {
  usep = pos 10000;
  rate = pos 40;
  uplift = heur_of worked_half_hour;
  facility = only 1 (read 1 (pos 9800) (neg_ℤ (pos 10)));
  load = only 3 (drawn (pos 10));
  operator = 5;
}

-- the second: the injection 1,005 in place of 990
abbrev second : Moves
second = record {
  usep = pos 10000;
  rate = pos 40;
  uplift = heur_of worked_half_hour;
  facility = only 1 (read 1 (pos 9800) (pos 15));
  load = nothing;
  operator = 5;
}

-- what the formulas give: the uplift rate, all accounts together and how many have something; the lines of accounts
-- 1 to 6 and 96; shares; reference prices; windows; both adjustments, and what is pending after them; payables; a fraction
abbrev worked : List (List ℤ)
worked =
    (heur_of worked_half_hour ∷ sum accounts (nasc_of worked_half_hour) ∷ sum accounts (λ a. cond (is_0 (nasc_of worked_half_hour a)) (pos 0) (pos 1)) ∷ [])
    ∷ line 1 ∷ line 2 ∷ line 3 ∷ line 4 ∷ line 5 ∷ line 6 ∷ line 96
    ∷ shares (thirds (pos 10)) ∷ shares (thirds (neg_ℤ (pos 10)))
    ∷ (two_prices (pos 9000) (pos 9001) (pos 1) (pos 1) ∷ two_prices (neg_ℤ (pos 9000)) (neg_ℤ (pos 9001)) (pos 1) (pos 1) ∷ [])
    ∷ (two_prices (pos 100) (pos 201) (pos 0) (neg_ℤ (pos 5)) ∷ [])
    ∷ (pos (window 5 1020) ∷ pos (window 5 1021) ∷ pos (window 252 1020) ∷ pos (window 252 1021) ∷ [])
    ∷ (nmea_of first 1 ∷ nmea_of first 3 ∷ sum accounts (nmea_of first) ∷ [])
    ∷ (nmea_of second 1 ∷ (sum accounts (nmea_of first) +ℤ sum accounts (nmea_of second)) ∷ [])
    ∷ (whole_cents (pos 999) ∷ whole_cents (neg_ℤ (pos 999)) ∷ whole_cents (pos 1000) ∷ whole_cents (neg_ℤ (pos 3463393)) ∷ [])
    ∷ (beq_of (bare nothing (only 2 (drawn (pos 100))) (pos 0)) (record { seller = 1; buyer = 2; baq = pos 0; bwf = 3333; bif = 0 }) ∷ [])
    ∷ []

-- what they are to give
abbrev figured : List (List ℤ)
figured =
    (neg_ℤ (pos 102) ∷ pos 0 ∷ pos 5 ∷ [])
    ∷ (pos 9800000 ∷ pos 0 ∷ neg_ℤ (pos 2500000) ∷ pos 1100000 ∷ pos 40000 ∷ pos 0 ∷ pos 8360000 ∷ [])
    ∷ (pos 0 ∷ pos 6000000 ∷ pos 2500000 ∷ pos 0 ∷ pos 24000 ∷ neg_ℤ (pos 60607) ∷ neg_ℤ (pos 3463393) ∷ [])
    ∷ (pos 0 ∷ pos 3900000 ∷ pos 0 ∷ pos 0 ∷ pos 15600 ∷ neg_ℤ (pos 39393) ∷ neg_ℤ (pos 3876207) ∷ [])
    ∷ (pos 0 ∷ pos 0 ∷ pos 0 ∷ neg_ℤ (pos 1100000) ∷ pos 0 ∷ pos 0 ∷ neg_ℤ (pos 1100000) ∷ [])
    ∷ (pos 0 ∷ pos 0 ∷ pos 0 ∷ pos 0 ∷ neg_ℤ (pos 79600) ∷ pos 0 ∷ pos 79600 ∷ [])
    ∷ (pos 0 ∷ pos 0 ∷ pos 0 ∷ pos 0 ∷ pos 0 ∷ pos 0 ∷ pos 0 ∷ [])
    ∷ (pos 0 ∷ pos 0 ∷ pos 0 ∷ pos 0 ∷ pos 0 ∷ pos 0 ∷ pos 0 ∷ [])
    ∷ (pos 10 ∷ pos 3 ∷ pos 3 ∷ pos 4 ∷ []) ∷ (neg_ℤ (pos 10) ∷ neg_ℤ (pos 4) ∷ neg_ℤ (pos 3) ∷ neg_ℤ (pos 3) ∷ [])
    ∷ (pos 9001 ∷ neg_ℤ (pos 9000) ∷ [])
    ∷ (pos 151 ∷ [])
    ∷ (pos 1 ∷ pos 2 ∷ pos 4 ∷ pos 5 ∷ [])
    ∷ (neg_ℤ (pos 97600) ∷ neg_ℤ (pos 99380) ∷ neg_ℤ (pos 196980) ∷ [])
    ∷ (pos 146400 ∷ neg_ℤ (pos 50580) ∷ [])
    ∷ (pos 0 ∷ pos 0 ∷ pos 1 ∷ neg_ℤ (pos 3463) ∷ [])
    ∷ (pos 33 ∷ [])
    ∷ []

-- the formulas give the worked figures
abbrev pub ReferenceCases : Type 0
ReferenceCases = worked ≡ figured
