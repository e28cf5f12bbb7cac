-- The steps of loops that build a sum.
use Rattle.std.proofs.Common.{◌≡◌, ℕ, suc, ◌+◌, ℤ, ◌+ℤ◌, sym, ap, ◌∙◌, add-one}
use Rattle.formulas.specs.Sums.{sum}
use Rattle.formulas.proofs.Sums.{sum_more}

pub sum_next : (k : ℕ) (f : ℕ → ℤ) → sum (k + 1) f ≡ sum k f +ℤ f (suc k)
sum_next k f = rw add-one (sum_more k f)

pub sum_step : (n : ℕ) (f : ℕ → ℤ) (v w : ℤ) → v ≡ sum n f → w ≡ v +ℤ f (suc n) → w ≡ sum (n + 1) f
sum_step n f v w p q = q ∙ ap (λ z. z +ℤ f (suc n)) p ∙ sym (sum_next n f)
