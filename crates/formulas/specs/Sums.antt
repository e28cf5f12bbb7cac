-- Sums and tests over the numbers from 1.
use Rattle.std.specs.Prelude.{ℕ, zero, suc, Bool, false, ◌||◌, ℤ, pos, ◌+ℤ◌}

-- the sum of f over the numbers 1 to n
unfoldable pub sum : ℕ → (ℕ → ℤ) → ℤ
sum zero f = pos 0
sum (suc n) f = sum n f +ℤ f (suc n)

-- whether the test holds of some number from 1 to n
unfoldable pub some_of : ℕ → (ℕ → Bool) → Bool
some_of zero t = false
some_of (suc n) t = some_of n t || t (suc n)
