-- Numbers as they were handed in.
use Rattle.std.proofs.Common.{◌≡◌, ℕ, ℤ, pos, nat_abs, ap}

pub as_given : (n : ℕ) (z : ℤ) → pos n ≡ z → n ≡ nat_abs z
as_given n z e = ap nat_abs e
