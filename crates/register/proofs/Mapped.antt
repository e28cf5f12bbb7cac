-- A register whose rows are read another way, each row by what it says: the same keys' rows stand at the same places.
use Rattle.std.proofs.Common.{◌≡◌, ℕ, Bool, true, false, cond, List, [], ◌∷◌, map, set, Some, None, Option, sym, refl, ap, ◌∙◌}
use Rattle.std.proofs.lemmas.List.{map-set}
use Rattle.std.specs.Option.{option_map, option_or}
use Rattle.register.specs.Keys.{Numbers, same_key}
use Rattle.register.specs.Rows.{is_at, is_vacant, lookup, place, placed, put_at}
use Rattle.register.proofs.First.{first, place_first}

module _ {R S : Type 0} (carried : R → Numbers) (named : S → Numbers) (f : R → S) (same : (r : R) → named (f r) ≡ carried r) where
  at_mapped : (k : Numbers) (x : Option R) → is_at named k (option_map f x) ≡ is_at carried k x
  at_mapped k None = refl
  at_mapped k (Some r) = ap (λ c. same_key c k) (same r)

  vacant_mapped : (x : Option R) → is_vacant (option_map f x) ≡ is_vacant x
  vacant_mapped None = refl
  vacant_mapped (Some r) = refl

  mapped_cond : (b : Bool) (x y : Option R) → cond b (option_map f x) (option_map f y) ≡ option_map f (cond b x y)
  mapped_cond true x y = refl
  mapped_cond false x y = refl

  -- the key's row
  pub lookup_mapped : (xs : List (Option R)) (k : Numbers) → lookup named (map (option_map f) xs) k ≡ option_map f (lookup carried xs k)
  unfolding lookup
  lookup_mapped [] k = refl
  lookup_mapped (x ∷ xs) k = rw (at_mapped k x, lookup_mapped xs k) (mapped_cond (is_at carried k x) x (lookup carried xs k))

  first_at_mapped : (xs : List (Option R)) (k : Numbers) → first (is_at named k) (map (option_map f) xs) ≡ first (is_at carried k) xs
  unfolding first
  first_at_mapped [] k = refl
  first_at_mapped (x ∷ xs) k = rw (at_mapped k x, first_at_mapped xs k)

  first_vacant_mapped : (xs : List (Option R)) → first is_vacant (map (option_map f) xs) ≡ first is_vacant xs
  unfolding first
  first_vacant_mapped [] = refl
  first_vacant_mapped (x ∷ xs) = rw (vacant_mapped x, first_vacant_mapped xs)

  -- where a row is put
  pub place_mapped : (xs : List (Option R)) (k : Numbers) → place named (map (option_map f) xs) k ≡ place carried xs k
  place_mapped xs k =
      let e : option_or (first (is_at named k) (map (option_map f) xs)) (first is_vacant (map (option_map f) xs)) ≡ option_or (first (is_at carried k) xs) (first is_vacant xs) = rw (first_at_mapped xs k, first_vacant_mapped xs) in
      place_first named (map (option_map f) xs) k ∙ e ∙ sym (place_first carried xs k)

  put_mapped : (o : Option ℕ) (xs : List (Option R)) (r : R) → map (option_map f) (put_at o xs (Some r)) ≡ put_at o (map (option_map f) xs) (Some (f r))
  put_mapped None xs r = refl
  put_mapped (Some i) xs r = map-set (option_map f) xs i (Some r)

  -- the rows after a row is put
  pub placed_mapped : (xs : List (Option R)) (r : R) → map (option_map f) (placed carried xs r) ≡ placed named (map (option_map f) xs) (f r)
  placed_mapped xs r =
      put_mapped (place carried xs (carried r)) xs r
      ∙ ap (λ o. put_at o (map (option_map f) xs) (Some (f r))) (sym (place_mapped xs (carried r)) ∙ ap (place named (map (option_map f) xs)) (sym (same r)))

  -- a row written where its key's row is or would be put
  pub written_mapped : (xs : List (Option R)) (i : ℕ) (r : R) → place carried xs (carried r) ≡ Some i → map (option_map f) (set xs i (Some r)) ≡ placed named (map (option_map f) xs) (f r)
  written_mapped xs i r e = ap (λ o. map (option_map f) (put_at o xs (Some r))) (sym e) ∙ placed_mapped xs r
