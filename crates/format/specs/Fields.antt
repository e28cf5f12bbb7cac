-- A line without the blanks around it, its fields between commas, and the numbers that they write.
use Rattle.std.specs.Prelude.{ℕ, Bool, cond, ◌||◌, List, [], ◌∷◌, reverse, ℤ, Some, None, Option, ◌==◌}
use Rattle.std.specs.List.{slice_split}
use Rattle.lines.specs.Numerals.{written_number}

-- whether a byte is dropped around a line: a blank, a tab or a carriage return
abbrev pub is_blank : ℕ → Bool
is_blank c = c == 32 || (c == 9 || c == 13)

-- a line without the blanks that it begins with
abbrev pub without_first_blanks : List ℕ → List ℕ
without_first_blanks [] = []
without_first_blanks (c ∷ cs) = cond (is_blank c) (without_first_blanks cs) (c ∷ cs)

-- a line without the blanks that it ends with
abbrev pub without_last_blanks : List ℕ → List ℕ
without_last_blanks cs = reverse (without_first_blanks (reverse cs))

-- a line without the blanks around it
abbrev pub trimmed_line : List ℕ → List ℕ
trimmed_line cs = without_last_blanks (without_first_blanks cs)

-- the fields of a line: what stands before, between and after its commas
abbrev pub fields_of : List ℕ → List (List ℕ)
fields_of cs = slice_split (λ c. c == 44) cs

-- a number before others, where both are there
abbrev pub before : Option ℤ → Option (List ℤ) → Option (List ℤ)
before None ns = None
before (Some n) None = None
before (Some n) (Some ns) = Some (n ∷ ns)

-- the numbers that fields write, where each writes one
abbrev pub numbers_in : List (List ℕ) → Option (List ℤ)
numbers_in [] = Some []
numbers_in (f ∷ fs) = before (written_number f) (numbers_in fs)
