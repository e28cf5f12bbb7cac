-- The uplift is shared out whole and in proportion to the loads.
use Rattle.std.proofs.Common.{◌≡◌, ℕ, zero, suc, ◌<◌, ◌≤◌, Bool, true, false, cond, eqb, ℤ, pos, negsuc, ◌+ℤ◌, ◌-ℤ◌, ◌*ℤ◌, ◌≤ℤ◌, ◌<ℤ◌, sym, refl, ap, ◌∙◌, arith, ne_eqb}
use native.Mathlib.Nat.{zero-div}
use lib.IntN.{*ℤ_comm}
use Rattle.std.proofs.lemmas.Int.{ints}
use Rattle.units.proofs.Floor.{floor_between, floor_unique}
use Rattle.units.specs.Division.{floor}
use Rattle.units.specs.Ranges.{accounts}
use Rattle.formulas.specs.Basis.{Basis}
use Rattle.formulas.specs.Figures.{weq_of, heua_of, heuc_of, borne, total_load, whole}
use Rattle.formulas.specs.Laws.{UpliftShared}
use Rattle.formulas.specs.Sums.{sum}
use Rattle.formulas.proofs.Ring.{times_add, times_sub, times_zero}
use Rattle.formulas.proofs.Sums.{sum_more, sum_none}

-- what the loads of all accounts up to n bear
abbrev upto : Basis → ℕ → ℤ
upto i n = borne (heua_of i) (total_load i) (sum n (weq_of i))

-- with a load, what is borne is a quotient
pub borne_some : (h : ℤ) (w : ℕ) (c : ℤ) → 0 < w → borne h w c ≡ floor (h *ℤ c) w
borne_some h w c some = ap (λ t. cond t (pos 0) (floor (h *ℤ c) w)) (ne_eqb w 0 (λ e. omega arith))

-- no load bears nothing
pub borne_none : (h : ℤ) (w : ℕ) → borne h w (pos 0) ≡ pos 0
borne_none h w = ap (λ x. cond (eqb w 0) (pos 0) x) (ap (λ x. floor x w) (times_zero h) ∙ ap pos (zero-div w)) ∙ either (eqb w 0)
  where
    either : (t : Bool) → cond t (pos 0) (pos 0) ≡ pos 0
    either true = refl
    either false = refl

-- a share is the difference of two steps
pub share_is : (i : Basis) (a : ℕ) → heuc_of i (suc a) ≡ upto i (suc a) -ℤ upto i a
unfolding heuc_of
share_is i a =
    let before : sum (suc a) (weq_of i) -ℤ weq_of i (suc a) ≡ sum a (weq_of i) = ap (λ x. x -ℤ weq_of i (suc a)) (sum_more a (weq_of i)) ∙ omega (arith, ints) in
    ap (λ x. upto i (suc a) -ℤ borne (heua_of i) (total_load i) x) before

-- the shares up to n are together what the loads up to n bear
pub shares_upto : (i : Basis) (n : ℕ) → sum n (heuc_of i) ≡ borne (heua_of i) (total_load i) (sum n (weq_of i))
shares_upto i zero = sum_none (heuc_of i) ∙ sym (ap (borne (heua_of i) (total_load i)) (sum_none (weq_of i)) ∙ borne_none (heua_of i) (total_load i))
shares_upto i (suc n) =
    sum_more n (heuc_of i) ∙ ap (λ x. x +ℤ heuc_of i (suc n)) (shares_upto i n) ∙ ap (λ x. upto i n +ℤ x) (share_is i n) ∙ omega (arith, ints)

whole_back : (z : ℤ) → 0 < whole z → z ≡ pos (whole z)
whole_back (pos n) some = refl
whole_back (negsuc n) some = absurd (omega arith)

-- all loads together bear all
borne_whole : (h : ℤ) (w : ℕ) → 0 < w → borne h w (pos w) ≡ h
borne_whole h w some = borne_some h w (pos w) some ∙ floor_unique (h *ℤ pos w) h w (omega (arith, ints)) (omega (arith, ints))

all_shared : (i : Basis) → 0 < total_load i → sum accounts (heuc_of i) ≡ heua_of i
unfolding total_load
all_shared i some =
    shares_upto i accounts ∙ ap (borne (heua_of i) (total_load i)) (whole_back (sum accounts (weq_of i)) some) ∙ borne_whole (heua_of i) (total_load i) some

between : (p x y t u q w : ℤ) → p ≡ x -ℤ y → t ≡ u +ℤ q → (x ≤ℤ t) × (t <ℤ (x +ℤ w)) → (y ≤ℤ u) × (u <ℤ (y +ℤ w)) → (p <ℤ (q +ℤ w)) × (q <ℤ (p +ℤ w))
between p x y t u q w d e a b = omega (arith, ints)

-- the difference of two quotients rounded down is off by less than one
near : (h : ℤ) (w : ℕ) (u v q : ℤ) → u ≡ v +ℤ q → 0 < w → ((pos w *ℤ (borne h w u -ℤ borne h w v)) <ℤ (h *ℤ q +ℤ pos w)) × ((h *ℤ q) <ℤ (pos w *ℤ (borne h w u -ℤ borne h w v) +ℤ pos w))
near h w u v q e some =
    let x = floor (h *ℤ u) w in
    let y = floor (h *ℤ v) w in
    let quotients : borne h w u -ℤ borne h w v ≡ x -ℤ y = ap (λ s. s -ℤ borne h w v) (borne_some h w u some) ∙ ap (λ s. x -ℤ s) (borne_some h w v some) in
    let apart : pos w *ℤ (borne h w u -ℤ borne h w v) ≡ x *ℤ pos w -ℤ y *ℤ pos w =
    ap (λ s. pos w *ℤ s) quotients ∙ times_sub (pos w) x y ∙ ap (λ s. s -ℤ pos w *ℤ y) (*ℤ_comm (pos w) x) ∙ ap (λ s. x *ℤ pos w -ℤ s) (*ℤ_comm (pos w) y) in
    between _ (x *ℤ pos w) (y *ℤ pos w) (h *ℤ u) (h *ℤ v) (h *ℤ q) (pos w) apart (ap (λ s. h *ℤ s) e ∙ times_add h v q) (floor_between (h *ℤ u) w some) (floor_between (h *ℤ v) w some)

fair : (i : Basis) (a : ℕ) → 1 ≤ a → 0 < total_load i →
    ((pos (total_load i) *ℤ heuc_of i a) <ℤ (heua_of i *ℤ weq_of i a +ℤ pos (total_load i))) × ((heua_of i *ℤ weq_of i a) <ℤ (pos (total_load i) *ℤ heuc_of i a +ℤ pos (total_load i)))
fair i zero first some = absurd (omega arith)
fair i (suc a) first some = rw (share_is i a) (near (heua_of i) (total_load i) (sum (suc a) (weq_of i)) (sum a (weq_of i)) (weq_of i (suc a)) (sum_more a (weq_of i)) some)

pub uplift_shared : (i : Basis) → UpliftShared i
unfolding heuc_of
uplift_shared i = record {
  whole = all_shared i;
  fair_above = λ a first some. (fair i a first some).0;
  fair_below = λ a first some. (fair i a first some).1;
  nothing = λ a e. ap (λ w. borne (heua_of i) w (sum a (weq_of i)) -ℤ borne (heua_of i) w (sum a (weq_of i) -ℤ weq_of i a)) e;
}
