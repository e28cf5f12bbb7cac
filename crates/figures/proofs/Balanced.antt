-- One account that takes the other side of all others.
use Rattle.std.proofs.Common.{◌≡◌, ℕ, zero, suc, ◌-◌, ◌<◌, ◌≤◌, Bool, true, false, cond, eqb, List, length, get_or, set, replicate, ℤ, pos, ◌+ℤ◌, ◌-ℤ◌, neg_ℤ, sym, refl, ap, ◌∙◌, arith, get_or-set_other, get_or-set_same}
use lib.IntN.{+ℤ_idr}
use Rattle.std.proofs.lemmas.List.{get_or-replicate}
use Rattle.std.proofs.lemmas.Int.{ints}
use Rattle.std.proofs.lemmas.Bool.{eqb-true, eqb-false}
use Rattle.units.specs.Ranges.{Account, accounts}
use Rattle.units.specs.declared.quantity.Money.{Money}
use Rattle.formulas.specs.Figures.{balanced}
use Rattle.figures.specs.Meaning.{amount_at}
use Rattle.formulas.specs.Sums.{sum}
use Rattle.formulas.proofs.Sums.{sum_same, sum_sub, sum_single}

-- all terms but that of x
pub sum_but : (n x : ℕ) (f : ℕ → ℤ) → 1 ≤ x → x ≤ n → sum n (λ b. cond (eqb b x) (pos 0) (f b)) ≡ sum n f -ℤ f x
sum_but n x f low high =
    sum_same n _ (λ b. f b -ℤ cond (eqb b x) (f x) (pos 0)) each
    ∙ sum_sub n f (λ b. cond (eqb b x) (f x) (pos 0))
    ∙ ap (λ z. sum n f -ℤ z) (sum_single n x (f x) low high)
  where
    by : (b : ℕ) (t : Bool) → eqb b x ≡ t → cond t (pos 0) (f b) ≡ f b -ℤ cond t (f x) (pos 0)
    by b true e = let same : f b ≡ f x = ap f (eqb-true b x e) in omega (arith, ints)
    by b false e = omega (arith, ints)

    each : (b : ℕ) → 1 ≤ b → b ≤ n → cond (eqb b x) (pos 0) (f b) ≡ f b -ℤ cond (eqb b x) (f x) (pos 0)
    each b l h = by b (eqb b x) refl

-- no amount yet
pub amount_none : (a : ℕ) → Account a → amount_at (replicate accounts (record { 0 = pos 0 })) a ≡ pos 0
amount_none zero (low, high) = absurd (omega arith)
amount_none (suc k) (low, high) = ap (λ (m : Money). m.0) (get_or-replicate accounts k (record { 0 = pos 0 }) (record { 0 = pos 0 }) (omega arith))

-- the amounts of the accounts 1 to n are f's
abbrev pub Filled : (ℕ → ℤ) → List Money → ℕ → Type 0
Filled f xs n = (a : ℕ) → 1 ≤ a → a ≤ n → amount_at xs a ≡ f a

-- an amount that rose at one account
pub credited : (xs : List Money) (x : ℕ) (by v : ℤ) → Account x → length xs ≡ accounts → v ≡ amount_at xs (suc (x - 1)) +ℤ by
    → (a : ℕ) → Account a → amount_at (set xs (x - 1) (record { 0 = v })) a ≡ amount_at xs a +ℤ cond (eqb x a) by (pos 0)
credited xs x by v ok long e zero (low, high) = absurd (omega arith)
credited xs x by v ok long e (suc k) (low, high) = go (eqb x (suc k)) refl
  where
    go : (t : Bool) → eqb x (suc k) ≡ t → amount_at (set xs (x - 1) (record { 0 = v })) (suc k) ≡ amount_at xs (suc k) +ℤ cond t by (pos 0)
    go true t =
        let same : k ≡ x - 1 = omega (arith, eqb-true x (suc k) t) in
        let lt : x - 1 < length xs = omega arith in
        ap (λ j. (get_or (set xs (x - 1) (record { 0 = v })) j (record { 0 = pos 0 })).0) same ∙ ap (λ m. m.0) (get_or-set_same xs (x - 1) _ _ lt) ∙ e ∙ ap (λ j. amount_at xs (suc j) +ℤ by) (sym same)
    go false t =
        let apart : k ≡ x - 1 → ⊥ = λ p. eqb-false x (suc k) t (omega arith) in
        ap (λ m. m.0) (get_or-set_other xs (x - 1) k _ _ apart) ∙ sym (+ℤ_idr _)

-- the amounts of the others, once account x has taken the other side
pub balanced_out : (xs : List Money) (x : ℕ) (v : ℤ) → Account x → length xs ≡ accounts → v ≡ amount_at xs (suc (x - 1)) -ℤ sum accounts (amount_at xs)
    → (a : ℕ) → Account a → amount_at (set xs (x - 1) (record { 0 = v })) a ≡ balanced x (amount_at xs) a
unfolding balanced
balanced_out xs x v ok long e zero (low, high) = absurd (omega arith)
balanced_out xs x v ok long e (suc k) (low, high) = by (eqb (suc k) x) refl
  where
    f : ℕ → ℤ
    f = amount_at xs

    by : (t : Bool) → eqb (suc k) x ≡ t → amount_at (set xs (x - 1) (record { 0 = v })) (suc k) ≡ cond t (neg_ℤ (sum accounts (λ b. cond (eqb b x) (pos 0) (f b)))) (f (suc k))
    by true t =
        let same : k ≡ x - 1 = omega (arith, eqb-true (suc k) x t) in
        let lt : x - 1 < length xs = omega arith in
        let next : x ≡ suc (x - 1) = omega arith in
        let own : f x ≡ f (suc (x - 1)) = ap f next in
        let rest : sum accounts (λ b. cond (eqb b x) (pos 0) (f b)) ≡ sum accounts f -ℤ f x = sum_but accounts x f ok.0 ok.1 in
        let other : f (suc (x - 1)) -ℤ sum accounts f ≡ neg_ℤ (sum accounts (λ b. cond (eqb b x) (pos 0) (f b))) = omega (arith, ints) in
        ap (λ j. (get_or (set xs (x - 1) (record { 0 = v })) j (record { 0 = pos 0 })).0) same ∙ ap (λ m. m.0) (get_or-set_same xs (x - 1) _ _ lt) ∙ e ∙ other
    by false t =
        let apart : k ≡ x - 1 → ⊥ = λ p. eqb-false (suc k) x t (omega arith) in
        ap (λ m. m.0) (get_or-set_other xs (x - 1) k _ _ apart)

-- the amounts of one list are f's, so once account x has taken the other side they are those of f
pub balanced_same : (xs : List Money) (f : ℕ → ℤ) (x : ℕ) → ((a : ℕ) → Account a → amount_at xs a ≡ f a) → (a : ℕ) → Account a → balanced x (amount_at xs) a ≡ balanced x f a
unfolding balanced
balanced_same xs f x same a ok = by (eqb a x)
  where
    each : (t : Bool) (b : ℕ) → amount_at xs b ≡ f b → cond t (pos 0) (amount_at xs b) ≡ cond t (pos 0) (f b)
    each true b e = refl
    each false b e = e

    by : (t : Bool) → cond t (neg_ℤ (sum accounts (λ b. cond (eqb b x) (pos 0) (amount_at xs b)))) (amount_at xs a) ≡ cond t (neg_ℤ (sum accounts (λ b. cond (eqb b x) (pos 0) (f b)))) (f a)
    by true = ap neg_ℤ (sum_same accounts _ _ (λ b low high. each (eqb b x) b (same b (low, high))))
    by false = same a ok
