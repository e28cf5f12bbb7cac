-- Checks in the order of their numbers, and the first that is met.
use Rattle.std.specs.Prelude.{ℕ, Bool, cond, List, [], ◌∷◌}

-- the number that a check answers, and whether it is met
pub record Check : Type 0 where
  pub number : ℕ
  pub met : Bool

-- the number of the first check that is met, or 0 where none is
abbrev pub first_met : List Check → ℕ
first_met [] = 0
first_met (c ∷ cs) = cond c.met c.number (first_met cs)
