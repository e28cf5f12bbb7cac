-- What a register means: the row of every key, where a row is put, and what a vacated half hour leaves.
-- A row is vacant (None) or carries a key, whose numbers `carried` gives.
use Rattle.std.specs.Prelude.{ℕ, Bool, true, false, cond, List, [], ◌∷◌, Some, None, Option, position, slice_set}
use Rattle.std.specs.Option.{option_or}
use Rattle.register.specs.Keys.{Numbers, of_half_hour, same_key}

-- whether the row carries the key
abbrev pub is_at : {R : Type 0} → (R → Numbers) → Numbers → Option R → Bool
is_at carried k None = false
is_at carried k (Some r) = same_key (carried r) k

-- whether the row is vacant
abbrev pub is_vacant : {R : Type 0} → Option R → Bool
is_vacant None = true
is_vacant (Some r) = false

-- the key's row: the first that carries it
unfoldable pub lookup : {R : Type 0} → (R → Numbers) → List (Option R) → Numbers → Option R
lookup carried [] k = None
lookup carried (x ∷ xs) k = cond (is_at carried k x) x (lookup carried xs k)

-- where a row of that key is put: over the key's row, else into the first vacant row
abbrev pub place : {R : Type 0} → (R → Numbers) → List (Option R) → Numbers → Option ℕ
place carried rows k = option_or (position (is_at carried k) rows) (position is_vacant rows)

-- the list with that element at the index, and the same where there is no index
abbrev pub put_at : {X : Type 0} → Option ℕ → List X → X → List X
put_at None xs y = xs
put_at (Some i) xs y = slice_set xs i y

-- the rows after a row is put
abbrev pub placed : {R : Type 0} → (R → Numbers) → List (Option R) → R → List (Option R)
placed carried rows row = put_at (place carried rows (carried row)) rows (Some row)

-- the row after its half hour, if it is that one, is vacated
abbrev pub vacated : {R : Type 0} → (R → Numbers) → ℕ → ℕ → Option R → Option R
vacated carried d t None = None
vacated carried d t (Some r) = cond (of_half_hour d t (carried r)) None (Some r)
