-- What a line of the input says.
use Rattle.std.specs.Prelude.{ℕ, cond, List, [], ◌∷◌, ℤ, Some, None, Option, Ok, Err, Result, ◌==◌}
use Rattle.format.specs.Fields.{fields_of, numbers_in, trimmed_line}
use Rattle.format.specs.Table.{by_word}
use Rattle.format.specs.declared.call.Call.{Call}
use Rattle.format.specs.declared.call.Malformed.{Malformed}

-- what a word makes of the numbers after it; nothing where a field is no number
abbrev pub of_numbers : List ℕ → Option (List ℤ) → Option Call
of_numbers w None = None
of_numbers w (Some ns) = by_word w ns

-- the call that the fields of a line make: the first is the word, the others are numbers
abbrev pub of_fields : List (List ℕ) → Option Call
of_fields [] = None
of_fields (w ∷ fs) = of_numbers w (numbers_in fs)

-- what a text says that makes that call; malformed where it makes none
abbrev pub of_call : Option Call → Result (Option Call) Malformed
of_call None = Err (record {})
of_call (Some call) = Ok (Some call)

-- what a text says without blanks around it: nothing where it is empty or begins with '#'
abbrev pub of_text : List ℕ → Result (Option Call) Malformed
of_text [] = Ok None
of_text (c ∷ cs) = cond (c == 35) (Ok None) (of_call (of_fields (fields_of (c ∷ cs))))

-- what a line says
abbrev pub said_by : List ℕ → Result (Option Call) Malformed
said_by cs = of_text (trimmed_line cs)
