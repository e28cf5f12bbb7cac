-- Postings of amounts that agree for every account.
use Rattle.std.proofs.Common.{◌≡◌, ℕ, zero, suc, ◌+◌, ◌≤◌, Bool, cond, not, ltb, ℤ, ◌+ℤ◌, refl, ap, ◌∙◌, subst, arith}
use Rattle.units.specs.Checks.{first_met}
use Rattle.units.specs.Ranges.{Account, accounts}
use Rattle.book.specs.Meaning.{is_balance}
use Rattle.book.specs.Statement.{InTurn, Settled, Turn, beyond, count, is_zero, postings, statement_checks}

count_same : (n : ℕ) (t u : ℕ → Bool) → ((a : ℕ) → 1 ≤ a → a ≤ n → t a ≡ u a) → count n t ≡ count n u
unfolding count
count_same zero t u h = refl
count_same (suc n) t u h =
    ap (λ x. x + cond (t (suc n)) 1 0) (count_same n t u (λ a low high. h a low (omega arith))) ∙ ap (λ b. count n u + cond b 1 0) (h (suc n) (omega arith) (omega arith))

module _ (f g : ℕ → ℤ) (same : (a : ℕ) → Account a → f a ≡ g a) where
  same_postings : postings f ≡ postings g
  same_postings = count_same accounts _ _ (λ a low high. ap (λ z. not (is_zero z)) (same a (low, high)))

  pub checks_same : (held : ℕ → ℤ) (room : ℕ) → first_met (statement_checks held room f) ≡ first_met (statement_checks held room g)
  checks_same held room =
      ap (λ n. cond (ltb 0 n) 15 (cond (ltb room (postings f)) 16 0)) (count_same accounts (beyond held f) (beyond held g) (λ a low high. ap (λ z. not (is_balance (held a +ℤ z))) (same a (low, high))))
      ∙ ap (λ n. cond (ltb 0 (count accounts (beyond held g))) 15 (cond (ltb room n) 16 0)) same_postings

  pub settled_same : (held : ℕ → ℤ) (room : ℕ) (held' : ℕ → ℤ) (room' : ℕ) → Settled held room f held' room' → Settled held room g held' room'
  settled_same held room held' room' t = record { balances = λ a ok. t.balances a ok ∙ ap (λ z. held a +ℤ z) (same a ok); no_more = t.no_more; at_most = omega (arith, t.at_most, same_postings) }

  pub turns_same : {S : Type 0} (held : S → ℕ → ℤ) (room : S → ℕ) (takes : S → ℕ → ℤ → S → Type 0) (n : ℕ) (s s' : S) → n ≤ accounts → InTurn held room takes f n s s' → InTurn held room takes g n s s'
  unfolding InTurn
  turns_same held room takes zero s s' h t = t
  turns_same held room takes (suc n) s s'' h (s', t, u) = (s', turns_same held room takes n s s' (omega arith) t, subst (λ z. Turn held room takes (suc n) z s' s'') (same (suc n) (omega arith, omega arith)) u)
