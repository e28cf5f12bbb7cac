-- The numbers that a line writes: an optional minus and digits.
use Rattle.std.specs.Prelude.{ℕ, ◌+◌, ◌-◌, ◌*◌, min, Bool, cond, ◌&&◌, List, [], ◌∷◌, ℤ, pos, neg_ℤ, Some, None, Option, ◌==◌, nat_le}
use Rattle.std.specs.Option.{option_map}

-- the farthest from zero that a written number is told apart
abbrev pub far : ℕ
far = 1000000000000000000

-- whether a byte is one of the digits 0 to 9
abbrev pub is_digit : ℕ → Bool
is_digit c = nat_le 48 c && nat_le c 57

-- the number that digits write after those that made up the first; none where something else stands among them
abbrev pub digits_after : ℕ → List ℕ → Option ℕ
digits_after n [] = Some n
digits_after n (c ∷ cs) = cond (is_digit c) (digits_after (n * 10 + (c - 48)) cs) None

-- a number, or the farthest that is told apart
abbrev pub clamped : Option ℕ → Option ℕ
clamped o = option_map (min far) o

-- the number that one or more digits write, clamped to the farthest
abbrev pub whole_number : List ℕ → Option ℕ
whole_number [] = None
whole_number (c ∷ cs) = clamped (digits_after 0 (c ∷ cs))

-- the number that an optional minus and one or more digits write, clamped to the farthest on either side of zero
abbrev pub written_number : List ℕ → Option ℤ
written_number [] = None
written_number (c ∷ cs) = cond (c == 45) (option_map (λ n. neg_ℤ (pos n)) (whole_number cs)) (option_map pos (whole_number (c ∷ cs)))
