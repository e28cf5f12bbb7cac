-- What is gathered of a correction is what the registers' rows say of it.
use Rattle.std.proofs.Common.{◌≡◌, ℕ, List, ℤ, Option, refl}
use mathlib.Core.Path.{fun_ext}
use Rattle.formulas.specs.Adjustment.{Moves}
use Rattle.formulas.specs.Basis.{Injection, Withdrawal}
use Rattle.register.specs.Keys.{numbered_key}
use Rattle.gather.specs.Gathered.{facility_key, load_key, moves_at}
use Rattle.rows.specs.Meaning.{facility_named, facility_rows, facility_says, interval_says, load_named, load_rows, load_says}
use Rattle.rows.specs.declared.facility.FacilityReading.{FacilityReading}
use Rattle.rows.specs.declared.interval.Interval.{Interval}
use Rattle.rows.specs.declared.load.LoadReading.{LoadReading}
use Rattle.rows.specs.declared.metered.Metered.{Metered}
use Rattle.statement.proofs.Gathered.{read_as}
use Rattle.settlement.specs.Moves.{injection_moved_in, moves_in, withdrawal_moved_in}

same_moves : (u r l : ℤ) (o o' : ℕ) (f g : ℕ → Option Injection) (p q : ℕ → Option Withdrawal) → o ≡ o' → f ≡ g → p ≡ q
    → ◌≡◌ {A = Moves} (record { usep = u; rate = r; uplift = l; facility = f; load = p; operator = o }) (record { usep = u; rate = r; uplift = l; facility = g; load = q; operator = o' })
same_moves u r l o o' f g p q e h k = cc

pub moves_said : (before after : Metered → ℤ) (i : Interval) (o o' : ℕ) (fs : List (Option FacilityReading)) (ls : List (Option LoadReading)) → o ≡ o'
    → moves_at (λ r. injection_moved_in before after (facility_says r)) (λ r. withdrawal_moved_in before after (load_says r)) i o fs ls ≡ moves_in before after o' (interval_says i) (facility_rows fs) (load_rows ls)
unfolding moves_at moves_in
moves_said before after i o o' fs ls e =
    same_moves _ _ _ o o' _ _ _ _ e
    (fun_ext (λ n. read_as facility_key facility_named facility_says (λ x. refl) (injection_moved_in before after) fs (numbered_key i.half_hour.day i.half_hour.interval n)))
    (fun_ext (λ n. read_as load_key load_named load_says (λ x. refl) (withdrawal_moved_in before after) ls (numbered_key i.half_hour.day i.half_hour.interval n)))
