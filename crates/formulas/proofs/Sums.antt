-- Laws of sums and tests over the numbers from 1.
use Rattle.std.proofs.Common.{◌≡◌, ℕ, zero, suc, ◌*◌, ◌≤◌, Bool, true, false, cond, ◌||◌, eqb, ℤ, pos, ◌+ℤ◌, ◌-ℤ◌, ◌*ℤ◌, neg_ℤ, ◌≤ℤ◌, sym, refl, ap, ◌∙◌, subst, ⊎_elim, suc-mul, eq-or-lt_of_le, zero-mul, arith, ne_eqb, eqb-true, ◌⊎◌, inl, inr}
use lib.Signed.{≤ℤ_refl}
use borrow.Author.Tests.{eqb-false, both_ways, clash}
use Rattle.std.proofs.lemmas.Int.{ints}
use Rattle.units.specs.Ranges.{Around, Within}
use Rattle.formulas.specs.Sums.{sum, some_of}
use Rattle.formulas.proofs.Ring.{times_add, times_zero}

pub sum_none : (f : ℕ → ℤ) → sum 0 f ≡ pos 0
unfolding sum
sum_none f = refl

pub sum_more : (n : ℕ) (f : ℕ → ℤ) → sum (suc n) f ≡ sum n f +ℤ f (suc n)
unfolding sum
sum_more n f = refl

-- functions that are equal from 1 to n have equal sums
pub sum_same : (n : ℕ) (f g : ℕ → ℤ) → ((k : ℕ) → 1 ≤ k → k ≤ n → f k ≡ g k) → sum n f ≡ sum n g
unfolding sum
sum_same zero f g h = refl
sum_same (suc n) f g h =
    let before = sum_same n f g (λ k low high. h k low (omega arith)) in
    let here = h (suc n) (omega arith) (omega arith) in
    ap (λ x. x +ℤ f (suc n)) before ∙ ap (λ x. sum n g +ℤ x) here

pub sum_add : (n : ℕ) (f g : ℕ → ℤ) → sum n (λ k. f k +ℤ g k) ≡ sum n f +ℤ sum n g
unfolding sum
sum_add zero f g = refl
sum_add (suc n) f g = let before = sum_add n f g in omega (arith, ints)

pub sum_sub : (n : ℕ) (f g : ℕ → ℤ) → sum n (λ k. f k -ℤ g k) ≡ sum n f -ℤ sum n g
unfolding sum
sum_sub zero f g = refl
sum_sub (suc n) f g = let before = sum_sub n f g in omega (arith, ints)

pub sum_neg : (n : ℕ) (f : ℕ → ℤ) → sum n (λ k. neg_ℤ (f k)) ≡ neg_ℤ (sum n f)
unfolding sum
sum_neg zero f = refl
sum_neg (suc n) f = let before = sum_neg n f in omega (arith, ints)

pub sum_scale : (n : ℕ) (c : ℤ) (f : ℕ → ℤ) → sum n (λ k. c *ℤ f k) ≡ c *ℤ sum n f
unfolding sum
sum_scale zero c f = sym (times_zero c)
sum_scale (suc n) c f = ap (λ x. x +ℤ c *ℤ f (suc n)) (sum_scale n c f) ∙ sym (times_add c (sum n f) (f (suc n)))

pub sum_zero : (n : ℕ) (f : ℕ → ℤ) → ((k : ℕ) → 1 ≤ k → k ≤ n → f k ≡ pos 0) → sum n f ≡ pos 0
unfolding sum
sum_zero zero f h = refl
sum_zero (suc n) f h =
    let before = sum_zero n f (λ k low high. h k low (omega arith)) in
    let here = h (suc n) (omega arith) (omega arith) in
    omega (arith, ints)

-- a sum of sums, in either order
pub sum_swap : (m n : ℕ) (f : ℕ → ℕ → ℤ) → sum m (λ j. sum n (λ k. f j k)) ≡ sum n (λ k. sum m (λ j. f j k))
unfolding sum
sum_swap zero n f = sym (sum_zero n (λ k. pos 0) (λ k low high. refl))
sum_swap (suc m) n f =
    ap (λ x. x +ℤ sum n (f (suc m))) (sum_swap m n f) ∙ sym (sum_add n (λ k. sum m (λ j. f j k)) (f (suc m)))

-- a function that is x at the number k alone
pub sum_single : (n k : ℕ) (x : ℤ) → 1 ≤ k → k ≤ n → sum n (λ a. cond (eqb a k) x (pos 0)) ≡ x
unfolding sum
sum_single zero k x low high = absurd (omega arith)
sum_single (suc n) k x low high = by (eqb (suc n) k) refl (λ less. sum_single n k x low less)
  where
    by : (t : Bool) → eqb (suc n) k ≡ t → (k ≤ n → sum n (λ a. cond (eqb a k) x (pos 0)) ≡ x) → sum n (λ a. cond (eqb a k) x (pos 0)) +ℤ cond (eqb (suc n) k) x (pos 0) ≡ x
    by true e before =
        let same = eqb-true (suc n) k e in
        let others : sum n (λ a. cond (eqb a k) x (pos 0)) ≡ pos 0 = sum_zero n _ (λ a from upto. ap (λ t. cond t x (pos 0)) (ne_eqb a k (λ q. omega arith))) in
        ap (λ s. s +ℤ cond (eqb (suc n) k) x (pos 0)) others ∙ ap (λ t. pos 0 +ℤ cond t x (pos 0)) e ∙ omega (arith, ints)
    by false e before =
        let apart = eqb-false (suc n) k e in
        ap (λ s. s +ℤ cond (eqb (suc n) k) x (pos 0)) (before (omega arith)) ∙ ap (λ t. x +ℤ cond t x (pos 0)) e ∙ omega (arith, ints)

-- terms no further than B from 0 have a sum no further than n times B from 0
pub sum_within : (n B : ℕ) (f : ℕ → ℤ) → ((k : ℕ) → 1 ≤ k → k ≤ n → Around B (f k)) → Around (n * B) (sum n f)
unfolding sum
sum_within zero B f h = omega (arith, ints, zero-mul B)
sum_within (suc n) B f h =
    let before = sum_within n B f (λ k low high. h k low (omega arith)) in
    let here = h (suc n) (omega arith) (omega arith) in
    omega (arith, ints, suc-mul n B)

-- terms from 0 to B have a sum from 0 to n times B
pub sum_up_to : (n B : ℕ) (f : ℕ → ℤ) → ((k : ℕ) → 1 ≤ k → k ≤ n → Within (pos 0) (pos B) (f k)) → Within (pos 0) (pos (n * B)) (sum n f)
unfolding sum
sum_up_to zero B f h = omega (arith, ints, zero-mul B)
sum_up_to (suc n) B f h =
    let before = sum_up_to n B f (λ k low high. h k low (omega arith)) in
    let here = h (suc n) (omega arith) (omega arith) in
    omega (arith, ints, suc-mul n B)

pub sum_at_most : (n : ℕ) (f g : ℕ → ℤ) → ((k : ℕ) → 1 ≤ k → k ≤ n → (f k) ≤ℤ (g k)) → (sum n f) ≤ℤ (sum n g)
unfolding sum
sum_at_most zero f g h = omega (arith, ints)
sum_at_most (suc n) f g h =
    let before = sum_at_most n f g (λ k low high. h k low (omega arith)) in
    let here = h (suc n) (omega arith) (omega arith) in
    omega (arith, ints)

-- with terms from 0, more terms have no lesser sum
pub sum_grows : (n m : ℕ) (f : ℕ → ℤ) → n ≤ m → ((k : ℕ) → 1 ≤ k → k ≤ m → (pos 0) ≤ℤ (f k)) → (sum n f) ≤ℤ (sum m f)
unfolding sum
sum_grows n zero f less h = subst (λ x. (sum n f) ≤ℤ (sum x f)) (let e : n ≡ 0 = omega arith in e) (≤ℤ_refl (sum n f))
sum_grows n (suc m) f less h =
    ⊎_elim (λ same. subst (λ x. (sum n f) ≤ℤ (sum x f)) same (≤ℤ_refl (sum n f)))
    (λ under.
    let before = sum_grows n m f (omega arith) (λ k low high. h k low (omega arith)) in
    let here = h (suc m) (omega arith) (omega arith) in
    omega (arith, ints))
    (eq-or-lt_of_le less)

pub some_none : (t : ℕ → Bool) → some_of 0 t ≡ false
unfolding some_of
some_none t = refl

pub some_more : (n : ℕ) (t : ℕ → Bool) → some_of (suc n) t ≡ (some_of n t || t (suc n))
unfolding some_of
some_more n t = refl

either : (x y : Bool) → (x || y) ≡ true → (x ≡ true) ⊎ (y ≡ true)
either true y e = inl refl
either false y e = inr e

neither : (x y : Bool) → (x || y) ≡ false → (x ≡ false) × (y ≡ false)
neither true y e = absurd (clash (sym e))
neither false y e = (refl, e)

-- a test that holds of some number holds of one
pub some_one : (n : ℕ) (t : ℕ → Bool) → some_of n t ≡ true → (k : ℕ) × (1 ≤ k) × (k ≤ n) × (t k ≡ true)
unfolding some_of
some_one zero t e = absurd (clash e)
some_one (suc n) t e =
    ⊎_elim (λ h. let found = some_one n t h in (found.0, found.1, omega (arith, found.2), found.3)) (λ h. (suc n, omega arith, omega arith, h)) (either (some_of n t) (t (suc n)) e)

-- a test that holds of no number fails at each
pub some_no : (n : ℕ) (t : ℕ → Bool) → some_of n t ≡ false → (k : ℕ) → 1 ≤ k → k ≤ n → t k ≡ false
unfolding some_of
some_no zero t e k low high = absurd (omega arith)
some_no (suc n) t e k low high =
    let both = neither (some_of n t) (t (suc n)) e in
    ⊎_elim (λ same. ap t same ∙ both.1) (λ less. some_no n t both.0 k low (omega arith)) (eq-or-lt_of_le high)

-- one number for which the test holds
pub some_from : (n : ℕ) (t : ℕ → Bool) (k : ℕ) → 1 ≤ k → k ≤ n → t k ≡ true → some_of n t ≡ true
some_from n t k low high holds = by (some_of n t) refl
  where
    by : (b : Bool) → some_of n t ≡ b → some_of n t ≡ true
    by true e = e
    by false e = absurd (both_ways (t k) (some_no n t e k low high) holds)
