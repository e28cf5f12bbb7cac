-- Digits read one at a time, and clamped to the farthest number at each, write what they write when clamped at the end.
use Rattle.std.proofs.Common.{◌≡◌, ℕ, ◌+◌, ◌-◌, ◌*◌, ◌<◌, ◌≤◌, min, true, false, cond, List, [], ◌∷◌, length, get_or, take, drop, pos, neg_ℤ, Some, None, Option, sym, refl, ap, ◌∙◌, not-suc-le-zero, add-one, arith, drop_of_length-le, take_all, drop-cons}
use Rattle.lines.specs.Numerals.{digits_after, far, clamped, is_digit, whole_number, written_number}
use Rattle.std.specs.Option.{option_map}
use Rattle.std.proofs.lemmas.Bool.Decides.{nat_tests}

-- two numbers that are clamped alike go on alike
pub held_alike : (cs : List ℕ) (a b : ℕ) → min far a ≡ min far b → clamped (digits_after a cs) ≡ clamped (digits_after b cs)
held_alike [] a b e = ap Some e
held_alike (c ∷ cs) a b e =
    elim (is_digit c) as (λ v. clamped (cond v (digits_after (a * 10 + (c - 48)) cs) None) ≡ clamped (cond v (digits_after (b * 10 + (c - 48)) cs) None))
    [ true ↦ held_alike cs (a * 10 + (c - 48)) (b * 10 + (c - 48)) (omega (arith, e)) | false ↦ refl ]

-- one digit more
pub one_digit : (l : List ℕ) (i n m : ℕ) → i < length l → is_digit (get_or l i 0) ≡ true → min far m ≡ min far (n * 10 + (get_or l i 0 - 48)) → clamped (digits_after m (drop (i + 1) l)) ≡ clamped (digits_after n (drop i l))
one_digit l i n m h d e =
    held_alike (drop (i + 1) l) m (n * 10 + (get_or l i 0 - 48)) e ∙ sym (rw (drop-cons l i 0 h, d, add-one i) refl)

-- something else than a digit
pub no_digit : (l : List ℕ) (i n : ℕ) → i < length l → is_digit (get_or l i 0) ≡ false → clamped (digits_after n (drop i l)) ≡ clamped (digits_after 0 l) → whole_number l ≡ None
no_digit [] i n h d e = refl
no_digit (c ∷ cs) i n h d e = sym e ∙ (rw (drop-cons (c ∷ cs) i 0 h, d) refl)

-- every digit is read
pub all_read : (l : List ℕ) (i n : ℕ) → length l ≤ i → 0 < length l → n ≤ far → clamped (digits_after n (drop i l)) ≡ clamped (digits_after 0 l) → Some n ≡ whole_number l
all_read [] i n h some le e = absurd (not-suc-le-zero some)
all_read (c ∷ cs) i n h some le e =
    let same : n ≡ min far n = omega arith in
    ap Some same ∙ (rw (drop_of_length-le (c ∷ cs) h) at e)

-- which bytes are digits
pub below_digits : (c : ℕ) → c < 48 → is_digit c ≡ false
below_digits c h = grind (arith, nat_tests)

pub above_digits : (c : ℕ) → 57 < c → is_digit c ≡ false
above_digits c h = grind (arith, nat_tests)

pub digit : (c : ℕ) → 48 ≤ c → c ≤ 57 → is_digit c ≡ true
digit c h k = grind (arith, nat_tests)

-- no number that is read lies beyond the farthest
held_small : (o : Option ℕ) (n : ℕ) → Some n ≡ clamped o → n ≤ far
held_small None n e = let z : ◌≡◌ {A = ℕ} 0 1 = cc in omega arith
held_small (Some m) n e = let same : n ≡ min far m = cc in omega arith

pub whole_small : (l : List ℕ) (n : ℕ) → Some n ≡ whole_number l → n ≤ far
whole_small [] n e = let z : ◌≡◌ {A = ℕ} 0 1 = cc in omega arith
whole_small (c ∷ cs) n e = held_small (digits_after 0 (c ∷ cs)) n e

-- digits after a minus
pub after_minus : (l : List ℕ) → get_or l 0 0 ≡ 45 → written_number l ≡ option_map (λ n. neg_ℤ (pos n)) (whole_number (take (length l - 1) (drop 1 l)))
after_minus [] first = absurd (omega arith)
after_minus (c ∷ cs) first =
    let all : length cs ≤ length (c ∷ cs) - 1 = omega arith in
    rw (first, take_all (length (c ∷ cs) - 1) cs all) refl
