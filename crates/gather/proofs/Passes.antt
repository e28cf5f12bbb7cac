-- One pass over a register that holds something of the first row of every key, by its place.
use Rattle.std.proofs.Common.{◌≡◌, ℕ, zero, suc, ◌+◌, ◌<◌, ◌≤◌, Bool, true, false, cond, eqb, List, [], ◌∷◌, ◌++◌, length, get_or, take, replicate, Some, None, Option, sym, refl, ap, ◌∙◌, subst, ⊎_elim, arith}
use Rattle.std.specs.Option.{option_map, option_or}
use Rattle.std.proofs.lemmas.List.{get_or_past, get_or-replicate, length-replicate, take_more}
use Rattle.std.proofs.lemmas.Bool.{and_from, and_left, and_right, ne_eqb, eq-eqb, eqb-true, eqb-false, cases_Bool, cases_lt}
use Rattle.records.specs.Meaning.{numbered}
use Rattle.register.specs.Keys.{Numbers, numbered_key, of_half_hour, same_key, same_list}
use Rattle.register.specs.Rows.{is_at, lookup}
use Rattle.register.proofs.Rows.{lookup_past}
use Rattle.gather.specs.Viewed.{ViewOf}

same_list_self : (xs : List ℕ) → same_list xs xs ≡ true
same_list_self [] = refl
same_list_self (x ∷ xs) = and_from (eqb x x) (same_list xs xs) (eq-eqb x x refl) (same_list_self xs)

-- a key is the same as itself
pub same_key_self : (k : Numbers) → same_key k k ≡ true
same_key_self k =
    and_from (of_half_hour k.day k.interval k) (same_list k.more k.more)
    (and_from (eqb k.day k.day) (eqb k.interval k.interval) (eq-eqb k.day k.day refl) (eq-eqb k.interval k.interval refl))
    (same_list_self k.more)

-- what was read at an index, by another name
pub read_as : {X : Type 0} (xs : List X) (m : ℕ) (x y : X) → x ≡ y → x ≡ get_or xs m x → y ≡ get_or xs m y
read_as {X} xs m x y e h = let P : X → Type 0 = λ z. z ≡ get_or xs m z in subst P e h

other_none : {X : Type 0} (o : Option X) → option_or o None ≡ o
other_none None = refl
other_none (Some x) = refl

module _ {R : Type 0} (carried : R → Numbers) where
  -- the key's row among one row more
  lookup_push : (xs : List (Option R)) (x : Option R) (k : Numbers) → lookup carried (xs ++ x ∷ []) k ≡ option_or (lookup carried xs k) (cond (is_at carried k x) x None)
  unfolding lookup
  lookup_push [] x k = refl
  lookup_push (None ∷ ys) x k = lookup_push ys x k
  lookup_push (Some y ∷ ys) x k = go (same_key (carried y) k) (lookup_push ys x k)
    where
      go : (b : Bool) → lookup carried (ys ++ x ∷ []) k ≡ option_or (lookup carried ys k) (cond (is_at carried k x) x None)
          → cond b (Some y) (lookup carried (ys ++ x ∷ []) k) ≡ option_or (cond b (Some y) (lookup carried ys k)) (cond (is_at carried k x) x None)
      go true h = refl
      go false h = h

  pub lookup_more : (xs : List (Option R)) (m : ℕ) (x : Option R) (k : Numbers) → m < length xs → x ≡ get_or xs m x
      → lookup carried (take (m + 1) xs) k ≡ option_or (lookup carried (take m xs) k) (cond (is_at carried k x) x None)
  lookup_more xs m x k l e =
      ap (λ ys. lookup carried ys k) (take_more xs m x l ∙ ap (λ y. take m xs ++ y ∷ []) (sym e)) ∙ lookup_push (take m xs) x k

  -- past a row of another key
  pub lookup_same : (xs : List (Option R)) (m : ℕ) (x : Option R) (k : Numbers) → m < length xs → x ≡ get_or xs m x → is_at carried k x ≡ false
      → lookup carried (take (m + 1) xs) k ≡ lookup carried (take m xs) k
  lookup_same xs m x k l e n = lookup_more xs m x k l e ∙ ap (λ b. option_or (lookup carried (take m xs) k) (cond b x None)) n ∙ other_none (lookup carried (take m xs) k)

  -- a row of another half hour does not carry a key of this one
  pub elsewhere : (r : R) (k : Numbers) (d t : ℕ) → k.day ≡ d → k.interval ≡ t → of_half_hour d t (carried r) ≡ false → same_key (carried r) k ≡ false
  elsewhere r k d t e f h =
      and_left (of_half_hour k.day k.interval (carried r)) (same_list (carried r).more k.more) (ap (λ x. of_half_hour x k.interval (carried r)) e ∙ ap (λ x. of_half_hour d x (carried r)) f ∙ h)

  -- a row of another key changes nothing
  pub kept_same : {T : Type 0} (view : R → T → Type 0) (xs : List (Option R)) (m : ℕ) (x : Option R) (k : Numbers) (was : Option T) → m < length xs → x ≡ get_or xs m x → is_at carried k x ≡ false
      → ViewOf view (lookup carried (take m xs) k) was → ViewOf view (lookup carried (take (m + 1) xs) k) was
  kept_same {T} view xs m x k was l e n w =
      let P : Option R → Type 0 = λ o. ViewOf view o was in subst P (sym (lookup_same xs m x k l e n)) w

  module _ {T : Type 0} (view : R → T → Type 0) (keyed : ℕ → Numbers) (apart : (i j : ℕ) → same_key (keyed i) (keyed j) ≡ true → i ≡ j) where
    at_place : (p i : ℕ) → same_key (keyed p) (keyed i) ≡ eqb i p
    at_place p i = ⊎_elim (λ e. ap (λ q. same_key (keyed p) (keyed q)) (eqb-true i p e) ∙ same_key_self (keyed p) ∙ sym e) (λ e. ⊎_elim (λ h. absurd (eqb-false i p e (sym (apart p i h)))) (λ h. h ∙ sym e) (cases_Bool (same_key (keyed p) (keyed i)))) (cases_Bool (eqb i p))

    -- the first of two rows, and what is seen of it
    first_seen : (o : Option R) (h : Option T) (r : R) (v : T) → ViewOf view o h → view r v → ViewOf view (option_or o (Some r)) (option_or h (Some v))
    first_seen None None r v e w = w
    first_seen None (Some x) r v e w = cc
    first_seen (Some q) None r v e w = absurd e
    first_seen (Some q) (Some x) r v e w = e

    -- a row of which a value is kept at its place
    pub kept_more : (xs : List (Option R)) (m : ℕ) (r : R) (v : T) (p i : ℕ) (was now : Option T) → m < length xs → Some r ≡ get_or xs m (Some r) → carried r ≡ keyed p → view r v
        → ViewOf view (lookup carried (take m xs) (keyed i)) was → now ≡ cond (eqb i p) (option_or was (Some v)) was
        → ViewOf view (lookup carried (take (m + 1) xs) (keyed i)) now
    kept_more xs m r v p i was now l e k s w n =
        let P : Option T → Type 0 = ViewOf view (lookup carried (take (m + 1) xs) (keyed i)) in subst P (sym n) (go (eqb i p) refl)
      where
        at : same_key (carried r) (keyed i) ≡ eqb i p
        at = ap (λ c. same_key c (keyed i)) k ∙ at_place p i

        old : Option R
        old = lookup carried (take m xs) (keyed i)

        more : (b : Bool) → eqb i p ≡ b → lookup carried (take (m + 1) xs) (keyed i) ≡ option_or old (cond b (Some r) None)
        more b f = lookup_more xs m (Some r) (keyed i) l e ∙ ap (λ c. option_or old (cond c (Some r) None)) (at ∙ f)

        go : (b : Bool) → eqb i p ≡ b → ViewOf view (lookup carried (take (m + 1) xs) (keyed i)) (cond b (option_or was (Some v)) was)
        go true f = let P : Option R → Type 0 = λ o. ViewOf view o (option_or was (Some v)) in subst P (sym (more true f)) (first_seen old was r v w s)
        go false f = let P : Option R → Type 0 = λ o. ViewOf view o was in subst P (sym (more false f ∙ other_none old)) w

-- what is seen of a row that there may be, by what it means
pub view_means : {R T M : Type 0} (view : R → T → Type 0) (meaning : T → M) (seen : R → M) → ((r : R) (v : T) → view r v → meaning v ≡ seen r)
    → (o : Option R) (h : Option T) → ViewOf view o h → option_map meaning h ≡ option_map seen o
view_means view meaning seen f None h w = ap (option_map meaning) w
view_means view meaning seen f (Some r) None w = absurd w
view_means view meaning seen f (Some r) (Some v) w = ap Some (f r v w)

-- a list of nothing holds nothing at any place
pub nothing_at : {H : Type 0} (n i : ℕ) → get_or {A = Option H} (replicate n None) i None ≡ None
nothing_at {H} n i =
    ⊎_elim (λ l. get_or-replicate n i None None l) (λ l. get_or_past (replicate n None) i None (subst (λ (m : ℕ). m ≤ i) (sym (length-replicate {A = Option H} n None)) l)) (cases_lt i n)

module _ {R : Type 0} (carried : R → Numbers) where
  -- where no row can carry the key, there is no such row
  pub none_carries : (xs : List (Option R)) (k : Numbers) → ((r : R) → same_key (carried r) k ≡ false) → lookup carried xs k ≡ None
  unfolding lookup
  none_carries [] k h = refl
  none_carries (None ∷ xs) k h = none_carries xs k h
  none_carries (Some r ∷ xs) k h = lookup_past carried (Some r) xs k (h r) ∙ none_carries xs k h

  module _ (number : R → ℕ) (by : (r : R) → (carried r).more ≡ number r ∷ []) where
    not_numbered : (r : R) (d t n : ℕ) → (number r ≡ n → ⊥) → same_key (carried r) (numbered_key d t n) ≡ false
    not_numbered r d t n h =
        and_right (of_half_hour d t (carried r)) (same_list (carried r).more (n ∷ []))
        (ap (λ xs. same_list xs (n ∷ [])) (by r) ∙ and_left (eqb (number r) n) true (ne_eqb (number r) n h))

    -- rows gathered by place are the keys' rows for every number
    pub by_number : {H M : Type 0} (meaning : H → M) (seen : R → M) (xs : List (Option R)) (held : List (Option H)) (d t last : ℕ)
        → ((r : R) → (1 ≤ number r) × (number r ≤ last)) → length held ≡ last
        → ((i : ℕ) → i < last → option_map meaning (get_or held i None) ≡ option_map seen (lookup carried xs (numbered_key d t (suc i))))
        → (n : ℕ) → option_map meaning (numbered held n) ≡ option_map seen (lookup carried xs (numbered_key d t n))
    by_number meaning seen xs held d t last range long h zero =
        sym (ap (option_map seen) (none_carries xs (numbered_key d t 0) (λ r. not_numbered r d t 0 (λ e. omega (arith, range r)))))
    by_number meaning seen xs held d t last range long h (suc i) =
        ⊎_elim (λ l. h i l)
        (λ l. ap (option_map meaning) (get_or_past held i None (omega arith)) ∙ sym (ap (option_map seen) (none_carries xs (numbered_key d t (suc i)) (λ r. not_numbered r d t (suc i) (λ e. omega (arith, range r))))))
        (cases_lt i last)
