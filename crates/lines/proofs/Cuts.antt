-- A text cut at its first line feed.
use Rattle.std.specs.List.{onto_first}
use Rattle.std.proofs.Common.{◌==◌, cond, true, false, ◌≡◌, ℕ, zero, suc, ◌+◌, ◌-◌, ◌<◌, ◌≤◌, List, [], ◌∷◌, length, get_or, take, drop, refl, ap, ◌∙◌, add-one, arith}
use Rattle.std.proofs.lemmas.List.{take_rest}
use Rattle.std.proofs.lemmas.Bool.{eq-eqb, ne_eqb}
use Rattle.lines.specs.Lines.{after_line_of, first_line_of, lines_of}

-- the first line ends where the first line feed is
pub first_cut : (l : List ℕ) (p : ℕ) → ((k : ℕ) → k < p → get_or l k 0 ≡ 10 → ⊥) → (p < length l → get_or l p 0 ≡ 10) → take p l ≡ first_line_of l
first_cut [] zero h f = refl
first_cut [] (suc p) h f = refl
first_cut (c ∷ cs) zero h f = rw (eq-eqb c 10 (f (omega arith))) refl
first_cut (c ∷ cs) (suc p) h f =
    let rest : take p cs ≡ first_line_of cs = first_cut cs p (λ k lt. h (suc k) (omega arith)) (λ lt. f (omega arith)) in
    rw (ne_eqb c 10 (h 0 (omega arith))) (ap (λ (z : List ℕ). c ∷ z) rest)

-- what follows the first line feed
dropped : (l : List ℕ) (p : ℕ) → ((k : ℕ) → k < p → get_or l k 0 ≡ 10 → ⊥) → p < length l → get_or l p 0 ≡ 10 → drop (p + 1) l ≡ after_line_of l
dropped [] p h lt e = absurd (omega arith)
dropped (c ∷ cs) zero h lt e = rw (eq-eqb c 10 e) refl
dropped (c ∷ cs) (suc p) h lt e =
    let rest : drop (p + 1) cs ≡ after_line_of cs = dropped cs p (λ k less. h (suc k) (omega arith)) (omega arith) e in
    let on : drop (suc p + 1) (c ∷ cs) ≡ drop (p + 1) cs = rw (add-one (suc p), add-one p) refl in
    rw (ne_eqb c 10 (h 0 (omega arith))) (on ∙ rest)

-- the same of a part that is cut to the end
pub rest_cut : (l : List ℕ) (p : ℕ) → ((k : ℕ) → k < p → get_or l k 0 ≡ 10 → ⊥) → p < length l → get_or l p 0 ≡ 10 → take (length l - (p + 1)) (drop (p + 1) l) ≡ after_line_of l
rest_cut l p h lt e = take_rest l (p + 1) ∙ dropped l p h lt e

-- nothing follows where there is no line feed
pub nothing_after : (l : List ℕ) (p : ℕ) → ((k : ℕ) → k < p → get_or l k 0 ≡ 10 → ⊥) → length l ≤ p → after_line_of l ≡ []
nothing_after [] p h le = refl
nothing_after (c ∷ cs) zero h le = absurd (omega arith)
nothing_after (c ∷ cs) (suc p) h le = rw (ne_eqb c 10 (h 0 (omega arith))) (nothing_after cs p (λ k lt. h (suc k) (omega arith)) (omega arith))

-- a text that is not empty begins with its first line, and the others follow
pub one_line : (l : List ℕ) → 0 < length l → lines_of l ≡ first_line_of l ∷ lines_of (after_line_of l)
one_line [] h = absurd (omega arith)
one_line (c ∷ []) h = elim (c == 10) as (λ b. cond b ([] ∷ []) (onto_first c []) ≡ cond b [] (c ∷ []) ∷ lines_of (cond b [] [])) [ true ↦ refl | false ↦ refl ]
one_line (c ∷ d ∷ cs) h =
    let on : lines_of (d ∷ cs) ≡ first_line_of (d ∷ cs) ∷ lines_of (after_line_of (d ∷ cs)) = one_line (d ∷ cs) (omega arith) in
    elim (c == 10) as (λ b. cond b ([] ∷ lines_of (d ∷ cs)) (onto_first c (lines_of (d ∷ cs))) ≡ cond b [] (c ∷ first_line_of (d ∷ cs)) ∷ lines_of (cond b (d ∷ cs) (after_line_of (d ∷ cs))))
    [ true ↦ refl | false ↦ ap (onto_first c) on ]
