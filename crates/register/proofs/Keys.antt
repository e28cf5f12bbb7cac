-- Equality of keys as the code tests it, part by part.
use Rattle.std.proofs.Common.{◌≡◌, ℕ, Bool, true, false, cond, ◌&&◌, eqb, Decides, sym, refl}
use Rattle.std.proofs.lemmas.Bool.{and_from, false≢true}
use Rattle.std.proofs.lemmas.Bool.Decides.{Decides-eqb, same_from_decides}

-- an equality of two numbers is their test
pub number_tells : (a b : ℕ) (r : Bool) → Decides r (a ≡ b) → r ≡ eqb a b
number_tells a b r h = same_from_decides r (eqb a b) h (Decides-eqb a b)

-- an equality of two parts is the test of both
pub both_tell : (P Q : Bool → Type 0) (x y r : Bool) → ((b : Bool) → P b → b ≡ x) → ((b : Bool) → Q b → b ≡ y)
    → cond r (P true × Q true) ((P false → ⊥) → (Q false → ⊥) → ⊥) → r ≡ (x && y)
both_tell P Q x y true p q h = sym (and_from x y (sym (p true h.0)) (sym (q true h.1)))
both_tell P Q true true false p q h = absurd (h (λ t. false≢true (p false t)) (λ t. false≢true (q false t)))
both_tell P Q true false false p q h = refl
both_tell P Q false y false p q h = refl

-- an equality of two half hours
pub half_hour_tells : (a b c d : ℕ) (r : Bool)
    → cond r (Decides true (a ≡ b) × Decides true (c ≡ d)) ((Decides false (a ≡ b) → ⊥) → (Decides false (c ≡ d) → ⊥) → ⊥) → r ≡ (eqb a b && eqb c d)
half_hour_tells a b c d r h = both_tell (λ r. Decides r (a ≡ b)) (λ r. Decides r (c ≡ d)) (eqb a b) (eqb c d) r (number_tells a b) (number_tells c d) h
