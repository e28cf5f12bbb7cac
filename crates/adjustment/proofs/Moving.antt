-- What the ranges of the differences say of the moves, and an adjustment term by term.
use Rattle.std.proofs.Common.{◌≡◌, ℕ, suc, ◌<◌, length, get_or, ℤ, ◌+ℤ◌, ◌-ℤ◌, ◌*ℤ◌, None, Option, ap, ◌∙◌}
use Rattle.std.specs.Option.{option_map}
use Rattle.std.proofs.lemmas.List.{get_or_default}
use Rattle.formulas.specs.Adjustment.{Moves, nmea_of, rate_of}
use Rattle.formulas.specs.Basis.{Withdrawal, facilities, of_load, over}
use Rattle.figures.specs.Working.{upto}
use Rattle.records.specs.Moved.{moves_of, withdrawal_moved}
use Rattle.records.specs.declared.moves.Differences.{Differences}
use Rattle.records.specs.declared.entries.LoadWithin.{LoadWithin}

-- what is read of the load at an account's place
pub load_at : (d : Differences) (f : Withdrawal → ℤ) (k : ℕ) (o : Option (LoadWithin 10000000)) → k < length d.loads → of_load f (option_map withdrawal_moved (get_or d.loads k o)) ≡ of_load f ((moves_of d).load (suc k))
load_at d f k o lt = ap (λ l. of_load f (option_map withdrawal_moved l)) (get_or_default d.loads k o None lt)

-- the adjustment, term by term
pub net_is : (m : Moves) (a : ℕ) (earned ieq weq wfq : ℤ) → earned ≡ upto m.facility facilities a (λ r. r.mep *ℤ r.ieq) → ieq ≡ upto m.facility facilities a (λ r. r.ieq)
    → weq ≡ of_load (λ l. l.weq) (m.load a) → wfq ≡ of_load (λ l. l.wfq) (m.load a)
    → earned -ℤ rate_of m a *ℤ ieq -ℤ (m.usep +ℤ m.uplift) *ℤ weq -ℤ rate_of m a *ℤ wfq ≡ nmea_of m a
unfolding nmea_of over
net_is m a earned ieq weq wfq p q r s =
    ap (λ x. x -ℤ rate_of m a *ℤ ieq -ℤ (m.usep +ℤ m.uplift) *ℤ weq -ℤ rate_of m a *ℤ wfq) p
    ∙ ap (λ x. upto m.facility facilities a (λ r. r.mep *ℤ r.ieq) -ℤ rate_of m a *ℤ x -ℤ (m.usep +ℤ m.uplift) *ℤ weq -ℤ rate_of m a *ℤ wfq) q
    ∙ ap (λ x. upto m.facility facilities a (λ r. r.mep *ℤ r.ieq) -ℤ rate_of m a *ℤ upto m.facility facilities a (λ r. r.ieq) -ℤ (m.usep +ℤ m.uplift) *ℤ x -ℤ rate_of m a *ℤ wfq) r
    ∙ ap (λ x. upto m.facility facilities a (λ r. r.mep *ℤ r.ieq) -ℤ rate_of m a *ℤ upto m.facility facilities a (λ r. r.ieq) -ℤ (m.usep +ℤ m.uplift) *ℤ of_load (λ l. l.weq) (m.load a) -ℤ rate_of m a *ℤ x) s
