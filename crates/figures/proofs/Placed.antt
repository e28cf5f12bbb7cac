-- What an array holds that was made by a call at each place.
use Rattle.std.proofs.Common.{◌≡◌, ℕ, zero, suc, ◌+◌, ◌<◌, ◌≤◌, ◌⊎◌, List, get_or, ℤ, pos, subst, sym, inl, inr, arith}
use Rattle.std.specs.Array.{IsFromFnResult, IsFromFnResultFrom}
use Rattle.std.proofs.lemmas.Bool.{cases_eq}
use denote.Param.Members.{Mut, Called}
use Rattle.units.specs.Ranges.{Account, accounts}
use Rattle.units.specs.declared.quantity.Money.{Money}
use Rattle.figures.specs.Meaning.{amount_at}

module _ {F B : Type 0} (g : Mut F (ℕ × Unit {0}) B) (Kept : F → Type 0) (P : ℕ → B → Type 0) (step : (p : F) (k : ℕ) (y : B) (q : F) → Kept p → Called g p (k, tt) y q → P k y × Kept q) (ys : List B) (d : B) where
  from_place : (f : F) (i n : ℕ) → Kept f → IsFromFnResultFrom g f ys i n → (k : ℕ) → i ≤ k → k < i + n → P k (get_or ys k d)
  from_place f i zero kept made k low high = absurd (omega arith)
  from_place f i (suc n) kept (q, y, at, called, rest) k low high = by (cases_eq k i) (λ l h. from_place q (i + 1) n (step f i y q kept called).1 rest k l h)
    where
      by : (k ≡ i) ⊎ (k ≡ i → ⊥) → (i + 1 ≤ k → k < i + 1 + n → P k (get_or ys k d)) → P k (get_or ys k d)
      by (inl e) more = subst (λ j. P j (get_or ys j d)) (sym e) (subst (P i) (sym (at.1 d)) (step f i y q kept called).0)
      by (inr ne) more = more (omega arith) (omega arith)

  -- each place holds what a call there gave
  pub at_place : (f : F) (n : ℕ) → Kept f → IsFromFnResult g f ys n → (k : ℕ) → k < n → P k (get_or ys k d)
  at_place f n kept made k h = from_place f 0 n kept made.each k (omega arith) (omega arith)

-- amounts that were made place by place are as each call made them, account by account
module _ {F : Type 0} (g : Mut F (ℕ × Unit {0}) Money) (Kept : F → Type 0) (P : ℕ → ℤ → Type 0) (step : (p : F) (k : ℕ) (y : Money) (q : F) → Kept p → Called g p (k, tt) y q → P (suc k) y.0 × Kept q) where
  pub amounts_made : (ys : List Money) (p : F) → Kept p → IsFromFnResult g p ys accounts → (a : ℕ) → Account a → P a (amount_at ys a)
  amounts_made ys p kept made zero (low, high) = absurd (omega arith)
  amounts_made ys p kept made (suc k) (low, high) = at_place g Kept (λ j y. P (suc j) y.0) step ys (record { 0 = pos 0 }) p accounts kept made k (omega arith)
