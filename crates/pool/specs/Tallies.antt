-- How many places of a list are taken.
use Rattle.std.specs.Prelude.{ℕ, List, is_some, count_by, Option}

-- how many of a list's places hold something
abbrev pub held_places : {T : Type 0} → List (Option T) → ℕ
held_places ps = count_by is_some ps
