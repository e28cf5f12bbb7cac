-- What a fresh list has at each index.
use Rattle.std.proofs.Common.{◌≡◌, ℕ, zero, suc, ◌-◌, get_or, replicate, pos, refl, ap, List, [], ◌∷◌, set}
use Rattle.units.specs.declared.quantity.Money.{Money}
use Rattle.book.specs.Statement.{amount_of}

pub at_replicate : {A : Type 0} (n k : ℕ) (a : A) → get_or (replicate n a) k a ≡ a
at_replicate zero k a = refl
at_replicate (suc n) zero a = refl
at_replicate (suc n) (suc k) a = at_replicate n k a

-- a fresh list has nothing for any account
pub no_money : (n a : ℕ) → amount_of (replicate n (record { 0 = pos 0 })) a ≡ pos 0
no_money n a = ap (λ (m : Money). m.0) (at_replicate n (a - 1) (record { 0 = pos 0 }))

-- what holds at every index still does after the write of a value of which it holds
pub each_set : {A : Type 0} (d : A) (P : A → Type 0) (xs : List A) (i : ℕ) (y : A) → ((k : ℕ) → P (get_or xs k d)) → P y → (k : ℕ) → P (get_or (set xs i y) k d)
each_set d P [] i y h p k = h k
each_set d P (x ∷ xs) zero y h p zero = p
each_set d P (x ∷ xs) zero y h p (suc k) = h (suc k)
each_set d P (x ∷ xs) (suc i) y h p zero = h zero
each_set d P (x ∷ xs) (suc i) y h p (suc k) = each_set d P xs i y (λ j. h (suc j)) p k
