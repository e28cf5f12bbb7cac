-- Fields taken one at a time, and the numbers that they write.
use Rattle.std.proofs.Common.{◌≡◌, ℕ, ◌+◌, List, [], ◌∷◌, ◌++◌, length, drop, ℤ, Some, None, Option, sym, refl, ap, ◌∙◌, append_assoc, append-nil, arith, length-drop}
use Rattle.std.proofs.lemmas.Iterator.{YieldsList}
use Rattle.std.proofs.lemmas.Iterator.Consumers.{YieldsList-at, YieldsList-end, YieldsList-turn}
use Rattle.std.proofs.lemmas.List.{drop_more}
use Rattle.std.specs.Iterator.{Yields}
use Rattle.std.specs.Option.{option_map}
use Rattle.lines.specs.Numerals.{written_number}
use Rattle.format.specs.Fields.{before, numbers_in}

-- numbers after those that were read
abbrev pub after : List ℤ → Option (List ℤ) → Option (List ℤ)
after xs o = option_map (λ ns. xs ++ ns) o

-- numbers before a field that is none
pub no_number : (xs : List ℤ) (all : List (List ℕ)) (f : List ℕ) (fs : List (List ℕ)) → all ≡ f ∷ fs → None ≡ written_number f → after xs (numbers_in all) ≡ None
no_number xs all f fs e none = rw (e, ← none) refl

-- a number read, and those after it
then_others : (xs : List ℤ) (v : ℤ) (o : Option (List ℤ)) → after xs (before (Some v) o) ≡ after (xs ++ v ∷ []) o
then_others xs v None = refl
then_others xs v (Some ns) = ap Some (sym (append_assoc xs (v ∷ []) ns))

-- one field that is a number
pub then_fields : (xs : List ℤ) (v : ℤ) (all : List (List ℕ)) (f : List ℕ) (fs : List (List ℕ)) → all ≡ f ∷ fs → Some v ≡ written_number f → after xs (numbers_in all) ≡ after (xs ++ v ∷ []) (numbers_in fs)
then_fields xs v all f fs e some = rw (e, ← some) (then_others xs v (numbers_in fs))

-- the last field is read
pub all_read : (xs : List ℤ) (all : List (List ℕ)) → length all ≡ 0 → after xs (numbers_in all) ≡ Some xs
all_read xs [] e = ap Some (append-nil xs)
all_read xs (f ∷ fs) e = absurd (omega arith)

-- the first of the fields, and a proof that the others follow
pub first_field : {S A B : Type 0} {steps : S → Option A → S → Type 0} {v : A → B} {s : S} {all : List B} → YieldsList steps v s all → (r : Option A) (x : A) (t : S) → r ≡ Some x → steps s r t → (all ≡ v x ∷ drop 1 all) × YieldsList steps v t (drop 1 all)
first_field {all = []} e r x t is next = absurd (e.runs x t (rw is at next))
first_field {all = z ∷ zs} e r x t is next = let on = e.runs.1 x t (rw is at next) in (ap (λ w. w ∷ zs) (sym on.0), record { runs = on.1 })

module _ {S A B : Type 0} {steps : S → Option A → S → Type 0} {v : A → B} {s : S} {all : List B} (e : YieldsList steps v s all) (r : Option A) (x : A) (t u : S) (is : r ≡ Some x) (next : steps s r t) (from : u ≡ t) (ys : List A) (j : S) (so_far : Yields steps u ys j) (q : Option A) (k : S) (turn : steps j q k) where
  -- the word, and the field that comes after those that were read
  pub at_field : (y : A) → q ≡ Some y → (all ≡ v x ∷ drop 1 all) × (drop (length ys) (drop 1 all) ≡ v y ∷ drop (length ys + 1) (drop 1 all))
  at_field y some =
      let first = first_field e r x t is next in
      let there = YieldsList-turn (YieldsList-at from first.1) ys j so_far q k y some turn in
      (first.0, drop_more (drop 1 all) (length ys) (v y) there.0 ∙ ap (λ w. w ∷ drop (length ys + 1) (drop 1 all)) (sym there.1))

  -- the word, and that every field was read
  pub at_end : q ≡ None → (all ≡ v x ∷ drop 1 all) × (length (drop (length ys) (drop 1 all)) ≡ 0)
  at_end none =
      let first = first_field e r x t is next in
      let there = YieldsList-end (YieldsList-at from first.1) ys j so_far q k none turn in
      (first.0, omega (arith, length-drop (length ys) (drop 1 all), there.1))
