-- A statement posted up to some account: how it begins, goes on by one account, and ends.
use Rattle.std.proofs.Common.{◌≡◌, ℕ, zero, suc, ◌+◌, ◌<◌, ◌≤◌, false, ◌⊎◌, List, get_or, ℤ, pos, negsuc, ◌+ℤ◌, sym, refl, ap, ◌∙◌, subst, inl, inr, ⊎_elim, add-one, arith}
use Rattle.std.proofs.lemmas.Int.{ints}
use Rattle.std.proofs.lemmas.Bool.{cases_eq, lt-ltb, not-false}
use Rattle.std.proofs.lemmas.Bool.Decides.{nat_tests}
use Rattle.units.specs.Checks.{first_met}
use Rattle.units.specs.Ranges.{Account, Around, accounts}
use Rattle.units.specs.declared.quantity.Money.{Money}
use Rattle.book.specs.Meaning.{balance_limit, is_balance, Raised}
use Rattle.book.specs.Statement.{count, beyond, is_posted, postings, amount_of, statement_checks, Settled, Turn, InTurn}
use Rattle.book.proofs.Counts.{count_more, count_grows, none_passes, balance_yes, balance_no, balance_within, zero_yes, zero_no}

-- the amount of the account at an index
pub amount_at : (ms : List Money) (i : ℕ) → amount_of ms (i + 1) ≡ (get_or ms i (record { 0 = pos 0 })).0
amount_at ms i = ap (λ k. (get_or ms k (record { 0 = pos 0 })).0) (omega arith)

pub none_beyond : (held amount : ℕ → ℤ) (i : ℕ) → count i (beyond held amount) ≡ 0 → Around balance_limit (held (i + 1) +ℤ amount (i + 1)) → count (i + 1) (beyond held amount) ≡ 0
none_beyond held amount i e w = simp (count_more, e, balance_yes (held (i + 1) +ℤ amount (i + 1)) w)

pub one_beyond : (held amount : ℕ → ℤ) (i : ℕ) → i < accounts → (Around balance_limit (held (i + 1) +ℤ amount (i + 1)) → ⊥) → 0 < count accounts (beyond held amount)
one_beyond held amount i h w =
    let more : count (i + 1) (beyond held amount) ≡ count i (beyond held amount) + 1 = simp (count_more, balance_no (held (i + 1) +ℤ amount (i + 1)) w) in
    omega (arith, count_grows (i + 1) accounts (beyond held amount) (omega arith))

pub counted : (amount : ℕ → ℤ) (i : ℕ) → (amount (i + 1) ≡ pos 0 → ⊥) → count (i + 1) (is_posted amount) ≡ count i (is_posted amount) + 1
counted amount i h = simp (count_more, zero_no (amount (i + 1)) h)

pub passed_over : (amount : ℕ → ℤ) (i : ℕ) → amount (i + 1) ≡ pos 0 → count (i + 1) (is_posted amount) ≡ count i (is_posted amount)
passed_over amount i e = let z : count (i + 1) (is_posted amount) ≡ count i (is_posted amount) + 0 = simp (count_more, zero_yes (amount (i + 1)) e) in omega arith

-- the accounts 1 to i have been posted to, and the others not yet
pub record Part (i : ℕ) (held : ℕ → ℤ) (room : ℕ) (amount held₁ : ℕ → ℤ) (room₁ : ℕ) : Type 0 where
  pub done : (a : ℕ) → Account a → a ≤ i → held₁ a ≡ held a +ℤ amount a
  pub left : (a : ℕ) → Account a → i < a → held₁ a ≡ held a
  pub no_more : room₁ ≤ room
  pub at_most : room ≤ room₁ + count i (is_posted amount)

cases_zero : (z : ℤ) → (z ≡ pos 0) ⊎ (z ≡ pos 0 → ⊥)
cases_zero (pos zero) = inl refl
cases_zero (pos (suc n)) = inr (λ e. omega (arith, ints))
cases_zero (negsuc n) = inr (λ e. omega (arith, ints))

module _ (i : ℕ) (held : ℕ → ℤ) (room : ℕ) (amount held₁ : ℕ → ℤ) (room₁ : ℕ) (p : Part i held room amount held₁ room₁) where
  pub part_room : i < accounts → postings amount ≤ room → (amount (i + 1) ≡ pos 0 → ⊥) → 0 < room₁
  part_room h q n = omega (arith, p.at_most, counted amount i n, count_grows (i + 1) accounts (is_posted amount) (omega arith))

  part_posted : (held₂ : ℕ → ℤ) (room₂ : ℕ) → (amount (i + 1) ≡ pos 0 → ⊥) → i < accounts → Raised held₁ room₁ (i + 1) (amount (i + 1)) held₂ room₂ → Part (i + 1) held room amount held₂ room₂
  part_posted held₂ room₂ n h r = record {
    done = λ a k m. ⊎_elim (λ e. subst (λ b. held₂ b ≡ held b +ℤ amount b) (sym e) (r.balance ∙ ap (λ z. z +ℤ amount (i + 1)) (p.left (i + 1) (omega arith, omega arith) (omega arith)))) (λ e. r.others a k e ∙ p.done a k (omega arith)) (cases_eq a (i + 1));
    left = λ a k m. r.others a k (λ e. omega arith) ∙ p.left a k (omega arith);
    no_more = omega (arith, r.no_more, p.no_more);
    at_most = omega (arith, r.at_most_one, p.at_most, counted amount i n);
  }

  part_skipped : amount (i + 1) ≡ pos 0 → Part (i + 1) held room amount held₁ room₁
  part_skipped e = record {
    done = λ a k m. ⊎_elim (λ q. omega (arith, ints, p.left a k (omega arith), ap amount q, e)) (λ q. p.done a k (omega arith)) (cases_eq a (i + 1));
    left = λ a k m. p.left a k (omega arith);
    no_more = p.no_more;
    at_most = omega (arith, p.at_most, passed_over amount i e);
  }

module _ {S : Type 0} (held : S → ℕ → ℤ) (room : S → ℕ) (takes : S → ℕ → ℤ → S → Type 0) (amount : ℕ → ℤ) (s : S) where
  pub no_turn : InTurn held room takes amount 0 s s
  unfolding InTurn
  no_turn = refl

  pub next_turn : (i : ℕ) (s' s'' : S) → InTurn held room takes amount i s s' → Turn held room takes (i + 1) (amount (i + 1)) s' s'' → InTurn held room takes amount (i + 1) s s''
  unfolding InTurn
  next_turn i s' s'' t u = rw add-one (s', t, rw add-one at u)

  part_turn : (i : ℕ) (s' s'' : S) → i < accounts → Part i (held s) (room s) amount (held s') (room s') → Turn held room takes (i + 1) (amount (i + 1)) s' s'' → Part (i + 1) (held s) (room s) amount (held s'') (room s'')
  part_turn i s' s'' h p u = ⊎_elim
      (λ e. subst (λ x. Part (i + 1) (held s) (room s) amount (held x) (room x)) (sym (u.none e)) (part_skipped i (held s) (room s) amount (held s') (room s') p e))
      (λ n. part_posted i (held s) (room s) amount (held s') (room s') p (held s'') (room s'') n h (u.once n).after)
      (cases_zero (amount (i + 1)))

  -- after the turns of some accounts these have been posted to, and the others not yet
  pub part_of : (n : ℕ) (s' : S) → n ≤ accounts → InTurn held room takes amount n s s' → Part n (held s) (room s) amount (held s') (room s')
  unfolding InTurn
  part_of zero s' h e = subst (λ x. Part 0 (held s) (room s) amount (held x) (room x)) (sym e) (record { done = λ a k m. absurd (omega arith); left = λ a k m. refl; no_more = omega arith; at_most = omega arith })
  part_of (suc n) s'' h (s', t, u) = rw add-one at (part_turn n s' s'' (omega arith) (part_of n s' (omega arith) t) (rw (← add-one) at u))

  pub settled : (s' : S) → InTurn held room takes amount accounts s s' → Settled (held s) (room s) amount (held s') (room s')
  settled s' t = let p = part_of accounts s' (omega arith) t in record { balances = λ a k. p.done a k k.1; no_more = p.no_more; at_most = p.at_most }

module _ (held : ℕ → ℤ) (room : ℕ) (amount : ℕ → ℤ) where
  pub refuses_beyond : 0 < count accounts (beyond held amount) → first_met (statement_checks held room amount) ≡ 15
  refuses_beyond h = simp (lt-ltb 0 (count accounts (beyond held amount)) h)

  -- what is known where no check is met
  pub none_met : ◌≡◌ {A = ℕ} 0 (first_met (statement_checks held room amount)) → (count accounts (beyond held amount) ≡ 0) × (postings amount ≤ room)
  none_met e = grind (arith, nat_tests)

pub all_fine : (held amount : ℕ → ℤ) → count accounts (beyond held amount) ≡ 0 → (a : ℕ) → Account a → Around balance_limit (held a +ℤ amount a)
all_fine held amount e a h =
    let no : beyond held amount a ≡ false = none_passes accounts (beyond held amount) e a h.0 h.1 in
    balance_within (held a +ℤ amount a) (not-false (is_balance (held a +ℤ amount a)) no)
