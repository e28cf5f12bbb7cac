-- A line without the blanks that it begins or ends with, from how many bytes stand before the first that is none.
use Rattle.std.proofs.Common.{◌≡◌, ℕ, ◌+◌, ◌-◌, ◌<◌, ◌≤◌, Bool, true, false, nat_lt, not, cond, List, [], ◌∷◌, ◌++◌, reverse, length, take, drop, Some, None, Option, sym, refl, ap, ◌∙◌, arith, length-drop, drop_of_length-le, one-add}
use Rattle.std.proofs.Math.Seq.{take-append_seam}
use Rattle.std.proofs.lemmas.Bool.Decides.{nat_tests}
use Rattle.std.proofs.lemmas.List.{length-reverse, reverse-append, reverse-reverse, take-append-drop, take_rest}
use Rattle.std.specs.List.{position_or_len}
use Rattle.format.specs.Fields.{is_blank, without_first_blanks, without_last_blanks}

-- whether a byte is kept
abbrev pub kept : ℕ → Bool
kept c = not (is_blank c)

-- how many blanks a list begins with, where it has another byte
abbrev pub blanks : List ℕ → Option ℕ
blanks l = cond (nat_lt (position_or_len kept l) (length l)) (Some (position_or_len kept l)) None

-- blanks are dropped up to the first byte that is kept
from_first : (l : List ℕ) → without_first_blanks l ≡ drop (position_or_len kept l) l
from_first [] = refl
from_first (c ∷ cs) =
    elim (is_blank c) as (λ b. cond b (without_first_blanks cs) (c ∷ cs) ≡ drop (cond (not (not b)) (1 + position_or_len kept cs) 0) (c ∷ cs))
    [ true ↦ from_first cs ∙ ap (λ n. drop n (c ∷ cs)) (sym (one-add (position_or_len kept cs))) | false ↦ refl ]

-- a place that was found, and one that was not
at_place : (p n k : ℕ) → Some k ≡ cond (nat_lt p n) (Some p) None → (k < n) × (k ≡ p)
at_place p n k e = grind (arith, nat_tests)

no_place : (p n : ℕ) → None ≡ cond (nat_lt p n) (Some p) None → n ≤ p
no_place p n e = grind (arith, nat_tests)

-- what the number of blanks says
counted : (l : List ℕ) (k : ℕ) → Some k ≡ blanks l → (k < length l) × (without_first_blanks l ≡ drop k l)
counted l k e =
    let at = at_place (position_or_len kept l) (length l) k e in
    (at.0, from_first l ∙ ap (λ n. drop n l) (sym at.1))

-- a list with nothing but blanks
all_blanks : (l : List ℕ) → None ≡ blanks l → without_first_blanks l ≡ []
all_blanks l e = from_first l ∙ drop_of_length-le l (no_place (position_or_len kept l) (length l) e)

-- what is left where the blanks at the front are dropped
pub front_dropped : (l : List ℕ) (r : Option ℕ) (k : ℕ) → r ≡ blanks l → r ≡ Some k → take (length l - k) (drop k l) ≡ without_first_blanks l
front_dropped l r k found is = take_rest l k ∙ sym (counted l k (sym is ∙ found)).1

pub no_front : (l : List ℕ) (r : Option ℕ) → r ≡ blanks l → r ≡ None → [] ≡ without_first_blanks l
no_front l r found is = sym (all_blanks l (sym is ∙ found))

-- the first elements, from those that are left the other way round
from_end : (k : ℕ) (l : List ℕ) → k ≤ length l → reverse (drop k (reverse l)) ≡ take (length l - k) l
from_end k l h =
    let xs : List ℕ = reverse (drop k (reverse l)) in
    let ys : List ℕ = reverse (take k (reverse l)) in
    let whole : xs ++ ys ≡ l = sym (reverse-append (take k (reverse l)) (drop k (reverse l))) ∙ ap reverse (take-append-drop k (reverse l)) ∙ reverse-reverse l in
    let long : length xs ≡ length l - k = simp (length-reverse, length-drop) refl in
    sym (ap (λ n. take n l) (sym long) ∙ ap (take (length xs)) (sym whole) ∙ take-append_seam xs ys)

-- what is left where the blanks at the end are dropped
pub end_dropped : (l : List ℕ) (r : Option ℕ) (k : ℕ) → r ≡ blanks (reverse l) → r ≡ Some k → (k ≤ length l) × (take (length l - k) l ≡ without_last_blanks l)
end_dropped l r k found is =
    let of = counted (reverse l) k (sym is ∙ found) in
    let within : k ≤ length l = omega (arith, of.0, length-reverse l) in
    (within, sym (ap reverse of.1 ∙ from_end k l within))

pub no_end : (l : List ℕ) (r : Option ℕ) → r ≡ blanks (reverse l) → r ≡ None → [] ≡ without_last_blanks l
no_end l r found is = ap reverse (sym (all_blanks (reverse l) (sym is ∙ found)))
