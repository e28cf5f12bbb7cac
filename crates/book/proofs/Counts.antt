-- How many numbers pass a test, one number further and over all of them; and what the tests of a posting tell.
use Rattle.std.proofs.Common.{◌≡◌, ℕ, zero, suc, ◌+◌, ◌-◌, ◌≤◌, Bool, true, false, cond, ℤ, pos, refl, add-zero, add-suc, add-one, arith}
use Rattle.std.proofs.lemmas.Int.{ints}
use Rattle.units.specs.Ranges.{Around}
use Rattle.book.specs.Meaning.{balance_limit, is_balance}
use Rattle.book.specs.Statement.{count, is_zero}

pub count_none : (t : ℕ → Bool) → count 0 t ≡ 0
unfolding count
count_none t = refl

pub count_more : (n : ℕ) (t : ℕ → Bool) → count (n + 1) t ≡ count n t + cond (t (n + 1)) 1 0
unfolding count
count_more n t = rw add-one refl

one_more : (b : Bool) (m n : ℕ) → m ≤ n → m + cond b 1 0 ≤ suc n
one_more true m n h = omega arith
one_more false m n h = omega arith

count_on : (m k : ℕ) (t : ℕ → Bool) → count m t ≤ count (m + k) t
unfolding count
count_on m zero t = rw add-zero (omega arith)
count_on m (suc k) t = rw add-suc (omega (arith, count_on m k t))

pub count_grows : (m n : ℕ) (t : ℕ → Bool) → m ≤ n → count m t ≤ count n t
count_grows m n t h =
    let e : m + (n - m) ≡ n = omega arith in
    rw e at (count_on m (n - m) t)

pub count_at_most : (n : ℕ) (t : ℕ → Bool) → count n t ≤ n
unfolding count
count_at_most zero t = omega arith
count_at_most (suc n) t = one_more (t (suc n)) (count n t) n (count_at_most n t)

not_counted : (b : Bool) → ◌≡◌ {A = ℕ} (cond b 1 0) 0 → b ≡ false
not_counted true e = absurd (omega arith)
not_counted false e = refl

-- where none of the numbers 1 to n passes, each of them fails
pub none_passes : (n : ℕ) (t : ℕ → Bool) → count n t ≡ 0 → (a : ℕ) → 1 ≤ a → a ≤ n → t a ≡ false
none_passes n t e zero low high = absurd (omega arith)
none_passes n t e (suc b) low high =
    let more : count (suc b) t ≡ count b t + cond (t (suc b)) 1 0 = rw add-one at (count_more b t) in
    not_counted (t (suc b)) (omega (arith, count_grows (suc b) n t high))

pub balance_yes : (z : ℤ) → Around balance_limit z → is_balance z ≡ true
balance_yes z h = grind (arith, ints)

pub balance_no : (z : ℤ) → (Around balance_limit z → ⊥) → is_balance z ≡ false
balance_no z h = grind (arith, ints)

pub balance_within : (z : ℤ) → is_balance z ≡ true → Around balance_limit z
balance_within z e = grind (arith, ints)

pub zero_yes : (z : ℤ) → z ≡ pos 0 → is_zero z ≡ true
zero_yes z e = grind (arith, ints)

pub zero_no : (z : ℤ) → (z ≡ pos 0 → ⊥) → is_zero z ≡ false
zero_no z h = grind (arith, ints)
