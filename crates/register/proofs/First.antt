-- The place of the first element that passes a test, counted element by element.
use Rattle.std.proofs.Common.{◌≡◌, ℕ, suc, ◌+◌, Bool, true, false, cond, ltb, not, List, [], ◌∷◌, length, Some, None, Option, refl, ap, ◌∙◌, arith, tests}
use Rattle.std.specs.List.{position, position_or_len}
use Rattle.std.specs.Option.{option_map, option_or}
use Rattle.register.specs.Keys.{Numbers}
use Rattle.register.specs.Rows.{is_at, is_vacant, place}

-- the place of the first element that passes
unfoldable pub first : {X : Type 0} → (X → Bool) → List X → Option ℕ
first test [] = None
first test (x ∷ xs) = cond (test x) (Some 0) (option_map suc (first test xs))

-- one element further on
one_on : (b : Bool) (p n : ℕ) → ltb p n ≡ b → cond (ltb (1 + p) (suc n)) (Some (1 + p)) None ≡ option_map suc (cond b (Some p) None)
one_on true p n e = grind (arith, tests)
one_on false p n e = grind (arith, tests)

-- it is what `position` gives
pub position_first : {X : Type 0} (test : X → Bool) (xs : List X) → position test xs ≡ first test xs
unfolding first
position_first test [] = refl
position_first test (x ∷ xs) = go (test x) (position_first test xs)
  where
    go : (b : Bool) → position test xs ≡ first test xs
        → cond (ltb (cond (not b) (1 + position_or_len test xs) 0) (suc (length xs))) (Some (cond (not b) (1 + position_or_len test xs) 0)) None ≡ cond b (Some 0) (option_map suc (first test xs))
    go true e = grind (arith, tests)
    go false e = one_on (ltb (position_or_len test xs) (length xs)) (position_or_len test xs) (length xs) refl ∙ ap (option_map suc) e

-- where a row of that key is put, counted so
pub place_first : {R : Type 0} (carried : R → Numbers) (xs : List (Option R)) (k : Numbers) → place carried xs k ≡ option_or (first (is_at carried k) xs) (first is_vacant xs)
place_first carried xs k = rw (position_first (is_at carried k) xs, position_first is_vacant xs)
