-- One pass over the rows: where a row of a key is put, as the rows from an index on and the first vacant row before it
-- tell.
use Rattle.std.proofs.Common.{◌≡◌, ℕ, ◌+◌, ◌<◌, ◌≤◌, true, false, List, ◌∷◌, length, get_or, drop, is_some, Some, None, Option, sym, ap, ◌∙◌}
use Rattle.std.specs.List.{position_from}
use Rattle.std.specs.Option.{option_or}
use Rattle.std.proofs.lemmas.Iterator.Adapters.{position_from-zero}
use Rattle.std.proofs.lemmas.List.{drop_all, drop_more}
use Rattle.register.specs.Keys.{Numbers}
use Rattle.register.specs.Rows.{is_at, is_vacant, place}

module _ {R : Type 0} (carried : R → Numbers) (k : Numbers) where
  unfoldable pub place_from : ℕ → Option ℕ → List (Option R) → Option ℕ
  place_from i vacant xs = option_or (position_from (is_at carried k) i xs) (option_or vacant (position_from is_vacant i xs))

  -- from the first row on
  pub place_start : (xs : List (Option R)) → place_from 0 None xs ≡ place carried xs k
  unfolding place_from
  place_start xs = sym (rw (position_from-zero (is_at carried k) xs, position_from-zero is_vacant xs))

  -- past the last row
  pub place_end : (xs : List (Option R)) (i : ℕ) (vacant : Option ℕ) → length xs ≤ i → place_from i vacant (drop i xs) ≡ vacant
  unfolding place_from
  place_end xs i None l = rw (drop_all i xs l)
  place_end xs i (Some j) l = rw (drop_all i xs l)

  -- what is left of the rows begins with the row at the index
  left : (xs : List (Option R)) (i : ℕ) (x : Option R) → i < length xs → x ≡ get_or xs i x → drop i xs ≡ x ∷ drop (i + 1) xs
  left xs i x l e = drop_more xs i x l ∙ ap (λ y. y ∷ drop (i + 1) xs) (sym e)

  -- at the key's row
  pub place_here : (xs : List (Option R)) (i : ℕ) (vacant : Option ℕ) (x : Option R) → i < length xs → x ≡ get_or xs i x → true ≡ is_at carried k x
      → place_from i vacant (drop i xs) ≡ Some i
  unfolding place_from
  place_here xs i vacant x l e a = rw (left xs i x l e, sym a)

  -- past a row that carries another key
  pub place_past : (xs : List (Option R)) (i : ℕ) (vacant : Option ℕ) (x : Option R) → i < length xs → x ≡ get_or xs i x → false ≡ is_at carried k x → is_some x ≡ true
      → place_from i vacant (drop i xs) ≡ place_from (i + 1) vacant (drop (i + 1) xs)
  unfolding place_from
  place_past xs i vacant None l e a s = cc
  place_past xs i vacant (Some r) l e a s = rw (left xs i (Some r) l e, sym a)

  -- past a vacant row
  pub place_vacant : (xs : List (Option R)) (i : ℕ) (vacant : Option ℕ) (x : Option R) → i < length xs → x ≡ get_or xs i x → is_some x ≡ false
      → place_from i vacant (drop i xs) ≡ place_from (i + 1) (option_or vacant (Some i)) (drop (i + 1) xs)
  unfolding place_from
  place_vacant xs i None None l e s = rw (left xs i None l e)
  place_vacant xs i (Some j) None l e s = rw (left xs i None l e)
  place_vacant xs i vacant (Some r) l e s = cc
