-- The lines of a text: each ends with a line feed, the last with one or with the text.
use Rattle.std.specs.Prelude.{ℕ, cond, List, [], ◌∷◌, ◌==◌}
use Rattle.std.specs.List.{onto_first}

-- what stands before the first line feed
abbrev pub first_line_of : List ℕ → List ℕ
first_line_of [] = []
first_line_of (c ∷ cs) = cond (c == 10) [] (c ∷ first_line_of cs)

-- what stands after the first line feed
abbrev pub after_line_of : List ℕ → List ℕ
after_line_of [] = []
after_line_of (c ∷ cs) = cond (c == 10) cs (after_line_of cs)

-- all lines of a text
abbrev pub lines_of : List ℕ → List (List ℕ)
lines_of [] = []
lines_of (c ∷ cs) = cond (c == 10) ([] ∷ lines_of cs) (onto_first c (lines_of cs))
