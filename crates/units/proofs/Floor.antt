-- The quotient rounded down: what it lies between, and that nothing else does.
use Rattle.std.proofs.Common.{◌≡◌, ℕ, zero, suc, ◌+◌, ◌*◌, ◌/◌, ◌<◌, ◌≤◌, ℤ, pos, negsuc, ◌+ℤ◌, ◌*ℤ◌, ◌≤ℤ◌, ◌<ℤ◌, ap, ◌∙◌, mod-lt, suc-mul, mul_comm, mul_left_comm, arith}
use native.Mathlib.Nat.{div-add-mod, div-eq_of_lt-le}
use Rattle.std.proofs.lemmas.Int.{ints}
use Rattle.std.specs.Int.{int_rem_euclid}
use Rattle.units.specs.Division.{floor, nearest}

pub floor_unique : (z q : ℤ) (d : ℕ) → (q *ℤ pos d) ≤ℤ z → z <ℤ (q *ℤ pos d +ℤ pos d) → floor z d ≡ q
floor_unique (pos n) (pos m) d low high =
    let a : m * d ≤ n = omega (arith, ints) in
    let b : n < (m + 1) * d = omega (arith, ints, suc-mul m d) in
    ap pos (div-eq_of_lt-le d a b)
floor_unique (pos n) (negsuc m) d low high = absurd (omega (arith, ints, suc-mul m d))
floor_unique (negsuc n) (pos m) d low high = absurd (omega (arith, ints))
floor_unique (negsuc n) (negsuc m) d low high =
    let a : m * d ≤ n = omega (arith, ints, suc-mul m d) in
    let b : n < (m + 1) * d = omega (arith, ints, suc-mul m d) in
    ap negsuc (div-eq_of_lt-le d a b)

-- the remainder of a quotient rounded down
pub floor_between : (z : ℤ) (d : ℕ) → 0 < d → ((floor z d *ℤ pos d) ≤ℤ z) × (z <ℤ (floor z d *ℤ pos d +ℤ pos d))
floor_between (pos n) d h = omega (arith, ints, div-add-mod n d, mod-lt n h, mul_comm d (n / d))
floor_between (negsuc n) d h = omega (arith, ints, div-add-mod n d, mod-lt n h, mul_comm d (n / d), suc-mul (n / d) d)

-- what is left after a quotient rounded down
pub floor_and_rest : (n : ℤ) (d : ℕ) → 0 < d → n ≡ floor n d *ℤ pos d +ℤ int_rem_euclid n (pos d)
floor_and_rest (pos n) d h = omega (arith, ints, div-add-mod n d, mul_comm d (n / d))
floor_and_rest (negsuc n) d h = omega (arith, ints, div-add-mod n d, mod-lt n h, mul_comm d (n / d), suc-mul (n / d) d)

-- the nearest whole is the next above a quotient rounded down where what is left is half the divisor or more
pub nearest_up : (n q r : ℤ) (d : ℕ) → n ≡ q *ℤ pos d +ℤ r → r <ℤ pos d → pos d ≤ℤ (pos 2 *ℤ r) → nearest n d ≡ q +ℤ pos 1
nearest_up n (pos m) r d e h t =
    floor_unique _ (pos m +ℤ pos 1) (2 * d) (omega (arith, ints, mul_left_comm m 2 d, suc-mul m (2 * d))) (omega (arith, ints, mul_left_comm m 2 d))
nearest_up n (negsuc zero) r d e h t = floor_unique _ (pos 0) (2 * d) (omega (arith, ints)) (omega (arith, ints))
nearest_up n (negsuc (suc m)) r d e h t =
    let next : negsuc m ≡ negsuc (suc m) +ℤ pos 1 = omega (arith, ints) in
    floor_unique _ (negsuc m) (2 * d) (omega (arith, ints, mul_left_comm (suc m) 2 d, suc-mul (suc m) d)) (omega (arith, ints, mul_left_comm (suc m) 2 d, suc-mul (suc m) d)) ∙ next

pub nearest_down : (n q r : ℤ) (d : ℕ) → n ≡ q *ℤ pos d +ℤ r → pos 0 ≤ℤ r → (pos 2 *ℤ r) <ℤ pos d → nearest n d ≡ q
nearest_down n (pos m) r d e h t = floor_unique _ (pos m) (2 * d) (omega (arith, ints, mul_left_comm m 2 d)) (omega (arith, ints, mul_left_comm m 2 d))
nearest_down n (negsuc m) r d e h t = floor_unique _ (negsuc m) (2 * d) (omega (arith, ints, mul_left_comm (suc m) 2 d)) (omega (arith, ints, mul_left_comm (suc m) 2 d))
