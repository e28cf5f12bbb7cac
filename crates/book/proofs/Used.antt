-- The lines of a passbook: counted up to the first vacant one, vacated after it, and with that one filled.
use Rattle.std.proofs.Common.{◌≡◌, ℕ, zero, suc, ◌+◌, ◌<◌, ◌≤◌, Bool, true, false, cond, eqb, List, [], ◌∷◌, ◌++◌, length, get_or, take, set, replicate, ℤ, pos, ◌+ℤ◌, is_some, Some, None, Option, sym, refl, ap, ◌∙◌, arith, length-append, length-set, length-take, drop, ⊎_elim}
use lib.ListN.{length-replicate}
use Rattle.std.proofs.lemmas.List.{get_or-set_other, map-id, drop_more}
use Rattle.std.proofs.lemmas.Grind.{common_steps}
use Rattle.std.proofs.lemmas.Iterator.{YieldsList, items_from_drains}
use Rattle.std.specs.Iterator.{Drains}
use Rattle.std.specs.List.{prefix_len, take_while, filter, filter_map, last_or}
use Rattle.std.proofs.lemmas.List.Sums.{take_while-cons}
use Rattle.std.proofs.lemmas.List.Folds.{length-prefix_len}
use Rattle.std.proofs.lemmas.Bool.{cond-true, cond-false, eq-eqb, ne_eqb, cases_lt}
use Rattle.book.specs.Lines.{used_lines, last_balance, balance_in, free_lines, vacated, Filled, Tidy}
use Rattle.book.specs.Meaning.{Raised}
use Rattle.book.specs.declared.entry.Entry.{Entry}
use Rattle.book.proofs.Cells.{at_replicate}

used_prefix : (ls : List (Option Entry)) → used_lines ls ≡ prefix_len is_some ls
used_prefix [] = refl
used_prefix (None ∷ ls) = refl
used_prefix (Some e ∷ ls) = omega (arith, used_prefix ls)

-- the used lines are those up to the first vacant one
pub used_taken : (ls : List (Option Entry)) → used_lines ls ≡ length (take_while is_some ls)
used_taken ls = used_prefix ls ∙ sym (length-prefix_len is_some ls)

-- the entries of account a in some lines
abbrev entries_of : List (Option Entry) → ℕ → List Entry
entries_of ls a = filter (λ e. eqb e.account a) (filter_map (λ o. o) ls)

-- the entries of account a in the used lines
abbrev pub said : List (Option Entry) → ℕ → List Entry
said ls a = entries_of (take_while is_some ls) a

-- the balance after an entry, or zero where there is none
abbrev pub after_of : Option Entry → ℤ
after_of None = pos 0
after_of (Some e) = e.after.0

one_line : (b : Bool) (e : Entry) (o : Option Entry) (ls : List (Option Entry)) (a : ℕ) → ((p : Option Entry) → last_balance (after_of p) ls a ≡ after_of (last_or p (said ls a))) → last_balance (cond b e.after.0 (after_of o)) ls a ≡ after_of (last_or o (cond b (e ∷ said ls a) (said ls a)))
one_line true e o ls a h = h (Some e)
one_line false e o ls a h = h o

-- what the last used line of an account says is what the last of its entries says
pub last_said : (o : Option Entry) (ls : List (Option Entry)) (a : ℕ) → last_balance (after_of o) ls a ≡ after_of (last_or o (said ls a))
last_said o [] a = refl
last_said o (None ∷ ls) a = refl
last_said o (Some e ∷ ls) a = one_line (eqb e.account a) e o ls a (λ p. last_said p ls a) ∙ ap (λ us. after_of (last_or o (entries_of us a))) (sym (take_while-cons is_some (Some e) ls))

-- an iterator that was called up to its end gave all that it yields
pub items_given : {S A : Type 0} {steps : S → Option A → S → Type 0} {s : S} {all : List A} (xs : List A) → Drains steps s xs → YieldsList steps (λ x. x) s all → xs ≡ all
items_given xs (u, d) y = sym (map-id xs) ∙ items_from_drains xs (d.0, d.1, λ _. (u, d.2)) y

pub used_at_most : (ls : List (Option Entry)) → used_lines ls ≤ length ls
used_at_most [] = omega arith
used_at_most (None ∷ ls) = omega arith
used_at_most (Some e ∷ ls) = omega (arith, used_at_most ls)

front_length : (ls : List (Option Entry)) → length (take (used_lines ls) ls) ≡ used_lines ls
front_length ls = omega (arith, length-take (used_lines ls) ls, used_at_most ls)

length_vacated : (ls : List (Option Entry)) → length (vacated ls) ≡ length ls
length_vacated ls =
    let vacant : Option Entry = None in
    omega (arith, front_length ls, length-append (take (used_lines ls) ls) (replicate (free_lines ls) None), length-replicate (free_lines ls) vacant, used_at_most ls)

-- where no line is used, none says anything
pub none_last : (z : ℤ) (a : ℕ) (ls : List (Option Entry)) → used_lines ls ≡ 0 → last_balance z ls a ≡ z
none_last z a [] e = refl
none_last z a (None ∷ ls) e = refl
none_last z a (Some x ∷ ls) e = absurd (omega arith)

used_of_vacant : (n : ℕ) → used_lines (replicate n None) ≡ 0
used_of_vacant zero = refl
used_of_vacant (suc n) = refl

used_of_front : (ls : List (Option Entry)) (n : ℕ) → used_lines (take (used_lines ls) ls ++ replicate n None) ≡ used_lines ls
used_of_front [] n = used_of_vacant n
used_of_front (None ∷ ls) n = used_of_vacant n
used_of_front (Some e ∷ ls) n = ap suc (used_of_front ls n)

tidy_front : (ls : List (Option Entry)) (n k : ℕ) → used_lines ls ≤ k → get_or (take (used_lines ls) ls ++ replicate n None) k None ≡ None
tidy_front [] n k h = at_replicate n k None
tidy_front (None ∷ ls) n k h = at_replicate n k None
tidy_front (Some e ∷ ls) n zero h = absurd (omega arith)
tidy_front (Some e ∷ ls) n (suc k) h = tidy_front ls n k (omega arith)

pub used_vacated : (ls : List (Option Entry)) → used_lines (vacated ls) ≡ used_lines ls
used_vacated ls = used_of_front ls (free_lines ls)

pub tidy_vacated : (ls : List (Option Entry)) → Tidy (vacated ls)
tidy_vacated ls k h = tidy_front ls (free_lines ls) k (omega (arith, used_vacated ls))

last_of_front : (z : ℤ) (a : ℕ) (ls : List (Option Entry)) (n : ℕ) → last_balance z (take (used_lines ls) ls ++ replicate n None) a ≡ last_balance z ls a
last_of_front z a [] n = none_last z a (replicate n None) (used_of_vacant n)
last_of_front z a (None ∷ ls) n = none_last z a (replicate n None) (used_of_vacant n)
last_of_front z a (Some e ∷ ls) n = last_of_front (cond (eqb e.account a) e.after.0 z) a ls n

pub balance_vacated : (ls : List (Option Entry)) (a : ℕ) → balance_in (vacated ls) a ≡ balance_in ls a
balance_vacated ls a = last_of_front (pos 0) a ls (free_lines ls)

pub free_vacated : (ls : List (Option Entry)) → free_lines (vacated ls) ≡ free_lines ls
free_vacated ls = omega (arith, length_vacated ls, used_vacated ls)

-- a used line has an entry
pub used_not_vacant : (ls : List (Option Entry)) (k : ℕ) → k < used_lines ls → get_or ls k None ≡ None → ⊥
used_not_vacant [] k h e = omega arith
used_not_vacant (None ∷ ls) k h e = omega arith
used_not_vacant (Some x ∷ ls) zero h e = let z : ◌≡◌ {A = ℕ} 0 1 = cc in omega arith
used_not_vacant (Some x ∷ ls) (suc k) h e = used_not_vacant ls k (omega arith) e

-- vacant lines say nothing
none_used : (ls : List (Option Entry)) → Tidy (None ∷ ls) → used_lines ls ≡ 0
none_used [] t = refl
none_used (x ∷ ls) t = ap (λ y. used_lines (y ∷ ls)) (t 1 (omega arith))

tidy_rest : (x : Entry) (ls : List (Option Entry)) → Tidy (Some x ∷ ls) → Tidy ls
tidy_rest x ls t k h = t (suc k) (omega arith)

used_set : (ls : List (Option Entry)) (e : Entry) → Tidy ls → used_lines ls < length ls → used_lines (set ls (used_lines ls) (Some e)) ≡ suc (used_lines ls)
used_set [] e t h = absurd (omega arith)
used_set (None ∷ ls) e t h = ap suc (none_used ls t)
used_set (Some x ∷ ls) e t h = ap suc (used_set ls e (tidy_rest x ls t) (omega arith))

last_set : (z : ℤ) (ls : List (Option Entry)) (e : Entry) (a : ℕ) → Tidy ls → used_lines ls < length ls → last_balance z (set ls (used_lines ls) (Some e)) a ≡ cond (eqb e.account a) e.after.0 (last_balance z ls a)
last_set z [] e a t h = absurd (omega arith)
last_set z (None ∷ ls) e a t h = none_last (cond (eqb e.account a) e.after.0 z) a ls (none_used ls t)
last_set z (Some x ∷ ls) e a t h = last_set (cond (eqb x.account a) x.after.0 z) ls e a (tidy_rest x ls t) (omega arith)

-- the first vacant line, at u, is filled with an entry
module _ (ls : List (Option Entry)) (u : ℕ) (e : Entry) (q : u ≡ used_lines ls) (t : Tidy ls) (h : u < length ls) where
  at_used : set ls u (Some e) ≡ set ls (used_lines ls) (Some e)
  at_used = ap (λ v. set ls v (Some e)) q

  pub used_filled : u + 1 ≡ used_lines (set ls u (Some e))
  used_filled = omega (arith, q, used_set ls e t (omega arith), ap used_lines at_used)

  pub tidy_filled : Tidy (set ls u (Some e))
  tidy_filled k m =
      let past : u < k = omega (arith, used_filled) in
      get_or-set_other ls u k (Some e) None (λ w. omega arith) ∙ t k (omega arith)

  pub last_filled : (a : ℕ) → balance_in (set ls u (Some e)) a ≡ cond (eqb e.account a) e.after.0 (balance_in ls a)
  last_filled a = ap (λ l. balance_in l a) at_used ∙ last_set (pos 0) ls e a t (omega arith)

  pub fill_raises : (amount : ℤ) → e.after.0 ≡ balance_in ls e.account +ℤ amount → Raised (balance_in ls) (free_lines ls) e.account amount (balance_in (set ls u (Some e))) (free_lines (set ls u (Some e)))
  fill_raises amount s = record {
    balance = last_filled e.account ∙ cond-true _ _ _ (eq-eqb e.account e.account refl) ∙ s;
    others = λ b k n. last_filled b ∙ cond-false _ _ _ (ne_eqb e.account b (λ w. n (sym w)));
    no_more = omega (arith, q, used_filled, length-set ls u (Some e));
    at_most_one = omega (arith, q, used_filled, length-set ls u (Some e));
  }

  pub fill_line : (amount : ℤ) → e.amount.0 ≡ amount → e.after.0 ≡ balance_in ls e.account +ℤ amount → Filled ls e.account amount (set ls u (Some e))
  fill_line amount p s = record { entry = e; of_account = refl; of_amount = p; of_balance = s; filled = at_used }

-- the lines from an index on begin with the line that was read there
pub next_line : (ls : List (Option Entry)) (i : ℕ) (x : Option Entry) → i < length ls → x ≡ get_or ls i x → drop i ls ≡ x ∷ drop (i + 1) ls
next_line ls i x h e = drop_more ls i x h ∙ ap (λ y. y ∷ drop (i + 1) ls) (sym e)

-- and a line with an entry is used
pub not_vacant_used : (ls : List (Option Entry)) (k : ℕ) (x : Entry) → Tidy ls → get_or ls k None ≡ Some x → k < used_lines ls
not_vacant_used ls k x t e = ⊎_elim (λ h. h) (λ h. absurd (let v : get_or ls k None ≡ None = t k h in let z : ◌≡◌ {A = ℕ} 0 1 = cc in omega arith)) (cases_lt k (used_lines ls))

-- what a count of the used lines, a vacating and a reading of a line want
pub ruleset counting = (used_taken, used_at_most, common_steps)

pub ruleset vacating = (used_vacated, tidy_vacated, balance_vacated, free_vacated, none_last)

pub ruleset reading = (used_at_most, used_not_vacant, common_steps)
