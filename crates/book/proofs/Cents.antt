-- What a balance in whole cents lies between, and how a layer's conditions are kept.
use Rattle.std.proofs.Common.{◌≡◌, ℕ, zero, suc, ℤ, pos, negsuc, sym, ap, ◌∙◌, subst, ⊎_elim, div-le_self, arith, refl}
use Rattle.std.proofs.lemmas.Int.{ints}
use Rattle.units.specs.Ranges.{Account, Around}
use Rattle.std.proofs.lemmas.Bool.{cases_eq}
use Rattle.book.specs.Cents.{whole_cents, InCents, own_first}

pub no_cents : whole_cents (pos 0) ≡ pos 0
unfolding whole_cents
no_cents = refl

pub cents_around : (far : ℕ) (z : ℤ) → Around far z → Around far (whole_cents z)
unfolding whole_cents
cents_around far (pos n) h = omega (arith, ints, div-le_self n 1000)
cents_around far (negsuc n) h = omega (arith, ints, div-le_self (suc n) 1000)

-- where one account's payable follows its balance and no other of either moves, the layer's own condition is kept
pub in_cents_kept : (payable payable' exact exact' : ℕ → ℤ) (a : ℕ) → payable' a ≡ whole_cents (exact' a) → ((b : ℕ) → Account b → (b ≡ a → ⊥) → payable' b ≡ payable b) → ((b : ℕ) → Account b → (b ≡ a → ⊥) → exact' b ≡ exact b) → InCents payable exact → InCents payable' exact'
in_cents_kept payable payable' exact exact' a here p x own b h =
    ⊎_elim (λ e. subst (λ k. payable' k ≡ whole_cents (exact' k)) (sym e) here) (λ n. p b h n ∙ own b h ∙ ap whole_cents (sym (x b h n))) (cases_eq b a)

pub own_first_kept : (own own' : Type 0) (below below' : ℕ → Type 0) → (own → own') → ((j : ℕ) → below j → below' j) → (i : ℕ) → own_first own below i → own_first own' below' i
own_first_kept own own' below below' f h zero = f
own_first_kept own own' below below' f h (suc i) = h i
