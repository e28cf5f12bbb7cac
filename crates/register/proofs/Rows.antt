-- What a register means, one row at a time: where the row of a key stands, and every key's row after a change.
use Rattle.std.proofs.Common.{◌≡◌, ℕ, suc, Bool, true, false, cond, eqb, List, [], ◌∷◌, map, get_or, is_some, Some, None, Option, sym, refl, ap, ◌∙◌}
use Rattle.std.specs.List.{find}
use Rattle.std.specs.Option.{option_flatten, option_map, option_or}
use Rattle.std.proofs.lemmas.Bool.{and_parts, eqb-true}
use Rattle.register.specs.Keys.{Numbers, of_half_hour, same_key, same_list}
use Rattle.register.specs.Rows.{is_at, is_vacant, lookup, place, placed, put_at, vacated}
use Rattle.register.proofs.First.{first, place_first}

same_list_is : (xs ys : List ℕ) → same_list xs ys ≡ true → xs ≡ ys
same_list_is [] [] e = refl
same_list_is [] (y ∷ ys) e = cc
same_list_is (x ∷ xs) [] e = cc
same_list_is (x ∷ xs) (y ∷ ys) e =
    let p = and_parts (eqb x y) (same_list xs ys) e in
    let h = eqb-true x y p.0 in
    let t = same_list_is xs ys p.1 in
    cc

numbers_are : (a b c d : ℕ) (m n : List ℕ) → a ≡ b → c ≡ d → m ≡ n → ◌≡◌ {A = Numbers} (record { day = a; interval = c; more = m }) (record { day = b; interval = d; more = n })
numbers_are a b c d m n e f h = cc

-- keys that test the same are the same
pub same_key_is : (k q : Numbers) → same_key k q ≡ true → k ≡ q
same_key_is k q e =
    let p = and_parts (of_half_hour q.day q.interval k) (same_list k.more q.more) e in
    let h = and_parts (eqb k.day q.day) (eqb k.interval q.interval) p.0 in
    numbers_are k.day q.day k.interval q.interval k.more q.more
    (eqb-true k.day q.day h.0) (eqb-true k.interval q.interval h.1) (same_list_is k.more q.more p.1)

-- an index among the rows after the first
put_at_past : {X : Type 0} (o : Option ℕ) (x : X) (xs : List X) (y : X) → put_at (option_map suc o) (x ∷ xs) y ≡ x ∷ put_at o xs y
put_at_past None x xs y = refl
put_at_past (Some i) x xs y = refl

mapped_some : (o : Option ℕ) → is_some (option_map suc o) ≡ true → is_some o ≡ true
mapped_some None e = e
mapped_some (Some i) e = refl

mapped_none : (o : Option ℕ) → option_map suc o ≡ None → o ≡ None
mapped_none None e = refl
mapped_none (Some i) e = cc

module _ {R : Type 0} (carried : R → Numbers) where
  -- a row that does not carry the key is passed over
  pub lookup_past : (x : Option R) (xs : List (Option R)) (k : Numbers) → is_at carried k x ≡ false → lookup carried (x ∷ xs) k ≡ lookup carried xs k
  unfolding lookup
  lookup_past x xs k e = rw e

  -- the first row that carries the key is the key's row
  pub lookup_here : (r : R) (xs : List (Option R)) (k : Numbers) → same_key (carried r) k ≡ true → lookup carried (Some r ∷ xs) k ≡ Some r
  unfolding lookup
  lookup_here r xs k e = rw e

  -- a row before two lists, where the key's row differs by a row put
  lookup_under : (x : Option R) (xs ys : List (Option R)) (q : Numbers) (b : Bool) (r : R) → (b ≡ true → is_at carried q x ≡ false) → lookup carried ys q ≡ cond b (Some r) (lookup carried xs q) → lookup carried (x ∷ ys) q ≡ cond b (Some r) (lookup carried (x ∷ xs) q)
  unfolding lookup
  lookup_under x xs ys q true r n e = rw (n refl) e
  lookup_under x xs ys q false r n e = rw e

  -- a row that carries the key carries no other
  at_one : (x : Option R) (k q : Numbers) → is_at carried k x ≡ true → is_at carried q x ≡ same_key k q
  at_one None k q e = cc
  at_one (Some y) k q e = ap (λ c. same_key c q) (same_key_is (carried y) k e)

  not_at : (x : Option R) (k q : Numbers) → is_at carried k x ≡ false → same_key k q ≡ true → is_at carried q x ≡ false
  not_at x k q e h = ap (λ c. is_at carried c x) (sym (same_key_is k q h)) ∙ e

  -- the row over the first row
  over_first : (b : Bool) (x : Option R) (xs : List (Option R)) (r : R) (q : Numbers) → same_key (carried r) q ≡ b → is_at carried (carried r) x ≡ true
      → lookup carried (Some r ∷ xs) q ≡ cond b (Some r) (lookup carried (x ∷ xs) q)
  over_first true x xs r q e h = lookup_here r xs q e
  over_first false x xs r q e h = lookup_past (Some r) xs q e ∙ sym (lookup_past x xs q (at_one x (carried r) q h ∙ e))

  -- the row over the key's row
  over_key : (xs : List (Option R)) (r : R) (q : Numbers) → is_some (first (is_at carried (carried r)) xs) ≡ true
      → lookup carried (put_at (first (is_at carried (carried r)) xs) xs (Some r)) q ≡ cond (same_key (carried r) q) (Some r) (lookup carried xs q)
  unfolding first
  over_key [] r q h = cc
  over_key (x ∷ xs) r q h = go (over_key xs r q) (is_at carried (carried r) x) refl h
    where
      rest : Option ℕ
      rest = first (is_at carried (carried r)) xs

      go : (is_some rest ≡ true → lookup carried (put_at rest xs (Some r)) q ≡ cond (same_key (carried r) q) (Some r) (lookup carried xs q))
          → (b : Bool) → is_at carried (carried r) x ≡ b → is_some (cond b (Some 0) (option_map suc rest)) ≡ true
          → lookup carried (put_at (cond b (Some 0) (option_map suc rest)) (x ∷ xs) (Some r)) q ≡ cond (same_key (carried r) q) (Some r) (lookup carried (x ∷ xs) q)
      go less true e t = over_first (same_key (carried r) q) x xs r q refl e
      go less false e t =
          ap (λ ys. lookup carried ys q) (put_at_past rest x xs (Some r))
          ∙ lookup_under x xs (put_at rest xs (Some r)) q (same_key (carried r) q) r (λ s. not_at x (carried r) q e s) (less (mapped_some rest t))

  -- the row into the first vacant row, where none carries the key
  into_vacant : (xs : List (Option R)) (r : R) (q : Numbers) → first (is_at carried (carried r)) xs ≡ None → is_some (first is_vacant xs) ≡ true
      → lookup carried (put_at (first is_vacant xs) xs (Some r)) q ≡ cond (same_key (carried r) q) (Some r) (lookup carried xs q)
  unfolding first lookup
  into_vacant [] r q n h = cc
  into_vacant (None ∷ xs) r q n h = refl
  into_vacant (Some y ∷ xs) r q n h = go (λ m. into_vacant xs r q m (mapped_some (first is_vacant xs) h)) (same_key (carried y) (carried r)) refl n
    where
      rest : Option ℕ
      rest = first is_vacant xs

      go : (first (is_at carried (carried r)) xs ≡ None → lookup carried (put_at rest xs (Some r)) q ≡ cond (same_key (carried r) q) (Some r) (lookup carried xs q))
          → (b : Bool) → same_key (carried y) (carried r) ≡ b → cond b (Some 0) (option_map suc (first (is_at carried (carried r)) xs)) ≡ None
          → lookup carried (put_at (option_map suc rest) (Some y ∷ xs) (Some r)) q ≡ cond (same_key (carried r) q) (Some r) (lookup carried (Some y ∷ xs) q)
      go less true e t = cc
      go less false e t =
          ap (λ ys. lookup carried ys q) (put_at_past rest (Some y) xs (Some r))
          ∙ lookup_under (Some y) xs (put_at rest xs (Some r)) q (same_key (carried r) q) r (λ s. not_at (Some y) (carried r) q e s)
          (less (mapped_none (first (is_at carried (carried r)) xs) t))

  -- every key's row after a row is put
  pub put_keys : (xs : List (Option R)) (r : R) (q : Numbers) → is_some (place carried xs (carried r)) ≡ true
      → lookup carried (placed carried xs r) q ≡ cond (same_key (carried r) q) (Some r) (lookup carried xs q)
  put_keys xs r q h =
      ap (λ o. lookup carried (put_at o xs (Some r)) q) (place_first carried xs (carried r))
      ∙ go (first (is_at carried (carried r)) xs) refl (ap is_some (sym (place_first carried xs (carried r))) ∙ h)
    where
      go : (o : Option ℕ) → first (is_at carried (carried r)) xs ≡ o → is_some (option_or o (first is_vacant xs)) ≡ true
          → lookup carried (put_at (option_or o (first is_vacant xs)) xs (Some r)) q ≡ cond (same_key (carried r) q) (Some r) (lookup carried xs q)
      go None e t = into_vacant xs r q e t
      go (Some i) e t = let m : is_some (first (is_at carried (carried r)) xs) ≡ true = ap is_some e in ap (λ o. lookup carried (put_at o xs (Some r)) q) (sym e) ∙ over_key xs r q m

  -- every key's row after a half hour is vacated
  pub vacated_keys : (xs : List (Option R)) (d t : ℕ) (q : Numbers) → lookup carried (map (vacated carried d t) xs) q ≡ cond (of_half_hour d t q) None (lookup carried xs q)
  unfolding lookup
  vacated_keys [] d t q = elim (of_half_hour d t q) as (λ b. ◌≡◌ {A = Option R} None (cond b None None)) [ true ↦ refl | false ↦ refl ]
  vacated_keys (None ∷ xs) d t q = vacated_keys xs d t q
  vacated_keys (Some y ∷ xs) d t q = go (vacated_keys xs d t q) (same_key (carried y) q) (of_half_hour d t (carried y)) refl refl
    where
      go : lookup carried (map (vacated carried d t) xs) q ≡ cond (of_half_hour d t q) None (lookup carried xs q)
          → (s b : Bool) → same_key (carried y) q ≡ s → of_half_hour d t (carried y) ≡ b
          → lookup carried (cond b None (Some y) ∷ map (vacated carried d t) xs) q ≡ cond (of_half_hour d t q) None (cond s (Some y) (lookup carried xs q))
      go less true true e h =
          let f : of_half_hour d t q ≡ true = ap (of_half_hour d t) (sym (same_key_is (carried y) q e)) ∙ h in
          less ∙ ap (λ z. cond z None (lookup carried xs q)) f ∙ ap (λ z. cond z None (Some y)) (sym f)
      go less true false e h =
          let f : of_half_hour d t q ≡ false = ap (of_half_hour d t) (sym (same_key_is (carried y) q e)) ∙ h in
          lookup_here y (map (vacated carried d t) xs) q e ∙ ap (λ z. cond z None (Some y)) (sym f)
      go less false true e h = less
      go less false false e h = lookup_past (Some y) (map (vacated carried d t) xs) q e ∙ less

  -- the first row that carries the key is the key's row
  lookup_at_first : (xs : List (Option R)) (k : Numbers) (i : ℕ) → first (is_at carried k) xs ≡ Some i → lookup carried xs k ≡ get_or xs i None
  unfolding first lookup
  lookup_at_first [] k i e = cc
  lookup_at_first (x ∷ xs) k i e = go (lookup_at_first xs k) (is_at carried k x) (first (is_at carried k) xs) refl e
    where
      go : ((j : ℕ) → first (is_at carried k) xs ≡ Some j → lookup carried xs k ≡ get_or xs j None)
          → (b : Bool) (o : Option ℕ) → first (is_at carried k) xs ≡ o → cond b (Some 0) (option_map suc o) ≡ Some i → cond b x (lookup carried xs k) ≡ get_or (x ∷ xs) i None
      go less true o f t = let z : 0 ≡ i = cc in ap (λ j. get_or (x ∷ xs) j None) z
      go less false None f t = cc
      go less false (Some j) f t = let z : suc j ≡ i = cc in less j f ∙ ap (λ n. get_or (x ∷ xs) n None) z

  -- where no row carries the key it has none
  lookup_no_first : (xs : List (Option R)) (k : Numbers) → first (is_at carried k) xs ≡ None → lookup carried xs k ≡ None
  unfolding first lookup
  lookup_no_first [] k e = refl
  lookup_no_first (x ∷ xs) k e = go (lookup_no_first xs k) (is_at carried k x) e
    where
      go : (first (is_at carried k) xs ≡ None → lookup carried xs k ≡ None) → (b : Bool) → cond b (Some 0) (option_map suc (first (is_at carried k) xs)) ≡ None → cond b x (lookup carried xs k) ≡ None
      go less true t = cc
      go less false t = less (mapped_none (first (is_at carried k) xs) t)

  -- the first vacant row is vacant
  vacant_at : (xs : List (Option R)) (i : ℕ) → first is_vacant xs ≡ Some i → get_or xs i None ≡ None
  unfolding first
  vacant_at [] i e = cc
  vacant_at (None ∷ xs) i e = let z : 0 ≡ i = cc in ap (λ j. get_or (None ∷ xs) j None) (sym z)
  vacant_at (Some y ∷ xs) i e = go (vacant_at xs) (first is_vacant xs) refl e
    where
      go : ((j : ℕ) → first is_vacant xs ≡ Some j → get_or xs j None ≡ None) → (o : Option ℕ) → first is_vacant xs ≡ o → option_map suc o ≡ Some i → get_or (Some y ∷ xs) i None ≡ None
      go less None f t = cc
      go less (Some j) f t = let z : suc j ≡ i = cc in ap (λ n. get_or (Some y ∷ xs) n None) (sym z) ∙ less j f

  -- where the key's row is or would be put, the key's row is what is there
  pub lookup_at_place : (xs : List (Option R)) (k : Numbers) (i : ℕ) → place carried xs k ≡ Some i → lookup carried xs k ≡ get_or xs i None
  lookup_at_place xs k i e = go (first (is_at carried k) xs) refl (sym (place_first carried xs k) ∙ e)
    where
      go : (o : Option ℕ) → first (is_at carried k) xs ≡ o → option_or o (first is_vacant xs) ≡ Some i → lookup carried xs k ≡ get_or xs i None
      go None f t = lookup_no_first xs k f ∙ sym (vacant_at xs i t)
      go (Some j) f t = lookup_at_first xs k i (f ∙ t)

  -- where there is no place, no row carries the key
  pub lookup_no_place : (xs : List (Option R)) (k : Numbers) → place carried xs k ≡ None → lookup carried xs k ≡ None
  lookup_no_place xs k e = go (first (is_at carried k) xs) refl (sym (place_first carried xs k) ∙ e)
    where
      go : (o : Option ℕ) → first (is_at carried k) xs ≡ o → option_or o (first is_vacant xs) ≡ None → lookup carried xs k ≡ None
      go None f t = lookup_no_first xs k f
      go (Some j) f t = cc

  -- the key's row, as it is found
  pub lookup_found : (xs : List (Option R)) (k : Numbers) → option_flatten (find (is_at carried k) xs) ≡ lookup carried xs k
  unfolding lookup
  lookup_found [] k = refl
  lookup_found (x ∷ xs) k = go (is_at carried k x) (lookup_found xs k)
    where
      go : (b : Bool) → option_flatten (find (is_at carried k) xs) ≡ lookup carried xs k → option_flatten (cond b (Some x) (find (is_at carried k) xs)) ≡ cond b x (lookup carried xs k)
      go true e = refl
      go false e = e

  -- the key's row carries the key
  pub lookup_carries : (xs : List (Option R)) (k : Numbers) (r : R) → lookup carried xs k ≡ Some r → carried r ≡ k
  unfolding lookup
  lookup_carries [] k r e = cc
  lookup_carries (None ∷ xs) k r e = lookup_carries xs k r e
  lookup_carries (Some y ∷ xs) k r e = go (lookup_carries xs k r) (same_key (carried y) k) refl e
    where
      go : (lookup carried xs k ≡ Some r → carried r ≡ k) → (b : Bool) → same_key (carried y) k ≡ b → cond b (Some y) (lookup carried xs k) ≡ Some r → carried r ≡ k
      go less true s t = let z : y ≡ r = cc in ap carried (sym z) ∙ same_key_is (carried y) k s
      go less false s t = less t

-- where there is no index, nothing is put
pub put_nowhere : {X : Type 0} (o : Option ℕ) (xs : List X) (y : X) → is_some o ≡ false → put_at o xs y ≡ xs
put_nowhere None xs y e = refl
put_nowhere (Some i) xs y e = cc

-- the first vacant index stays, or is the one at hand
pub first_free : (free : Option ℕ) (i : ℕ) → is_some free ≡ false → option_or free (Some i) ≡ Some i
first_free None i e = refl
first_free (Some j) i e = cc

pub kept_free : (free : Option ℕ) (i : ℕ) → is_some free ≡ true → option_or free (Some i) ≡ free
kept_free None i e = cc
kept_free (Some j) i e = refl
