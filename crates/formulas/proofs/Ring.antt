-- Laws of the product of signed numbers.
use Rattle.std.proofs.Common.{◌≡◌, zero, suc, ◌*◌, ℤ, pos, negsuc, ◌+ℤ◌, ◌-ℤ◌, ◌*ℤ◌, neg_ℤ, sym, refl, ap, ◌∙◌, arith}
use borrow.Author.Differences.{up, down, sum_is_lem, same_in, product_is}
use lib.IntN.{neg_ℤ-neg_ℤ}

pub add_times : (a b c : ℤ) → (a +ℤ b) *ℤ c ≡ a *ℤ c +ℤ b *ℤ c
add_times a b c =
    let above = ap (λ x. x * up c) (sum_is_lem a b) in
    let below = ap (λ x. x * down c) (sum_is_lem a b) in
    omega (arith, same_in, sum_is_lem, product_is)

pub times_add : (c a b : ℤ) → c *ℤ (a +ℤ b) ≡ c *ℤ a +ℤ c *ℤ b
times_add c a b =
    let above = ap (λ x. up c * x) (sum_is_lem a b) in
    let below = ap (λ x. down c * x) (sum_is_lem a b) in
    omega (arith, same_in, sum_is_lem, product_is)

pub times_zero : (c : ℤ) → c *ℤ pos 0 ≡ pos 0
times_zero c = omega (arith, same_in, product_is)

pub times_neg : (c a : ℤ) → c *ℤ neg_ℤ a ≡ neg_ℤ (c *ℤ a)
times_neg c (pos zero) = times_zero c ∙ ap neg_ℤ (sym (times_zero c))
times_neg (pos m) (pos (suc n)) = refl
times_neg (negsuc m) (pos (suc n)) = sym (neg_ℤ-neg_ℤ (pos (suc m * suc n)))
times_neg (pos m) (negsuc n) = sym (neg_ℤ-neg_ℤ (pos (m * suc n)))
times_neg (negsuc m) (negsuc n) = refl

pub times_sub : (c a b : ℤ) → c *ℤ (a -ℤ b) ≡ c *ℤ a -ℤ c *ℤ b
times_sub c a b = times_add c a (neg_ℤ b) ∙ ap (λ x. c *ℤ a +ℤ x) (times_neg c b)
