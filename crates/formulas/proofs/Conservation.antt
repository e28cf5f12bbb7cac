-- Nothing is gained or lost between the accounts.
use Rattle.std.proofs.Common.{◌≡◌, ℕ, ◌<◌, ◌≤◌, Bool, true, false, cond, eqb, ◌⊎◌, ℤ, pos, ◌+ℤ◌, ◌-ℤ◌, ◌*ℤ◌, neg_ℤ, IfSome, Some, None, Option, sym, refl, ap, ◌∙◌, ⊎_elim, eq-zero-or-pos, arith}
use Rattle.std.proofs.lemmas.Int.{ints}
use Rattle.std.proofs.lemmas.Bool.Decides.{nat_tests}
use Rattle.units.specs.Ranges.{Account, accounts}
use Rattle.formulas.specs.Basis.{Basis, Bilateral, contracts}
use Rattle.formulas.specs.Figures.{beq_of, bsc_of, fee_of, gesc_of, heua_of, heuc_of, lesd_of, nasc_of, vcsc_of, balanced, from_contract, own_fee_of, own_vcsc_of, total_load}
use Rattle.formulas.specs.Laws.{Conserved}
use Rattle.formulas.specs.Sums.{sum}
use Rattle.formulas.proofs.Sums.{sum_add, sum_same, sum_single, sum_sub, sum_swap, sum_zero}
use Rattle.formulas.proofs.Shares.{uplift_shared}

-- every party named in the half hour is an account
pub record Parties (i : Basis) : Type 0 where
  pub counterparty : Account i.counterparty
  pub operator : Account i.operator
  pub traders : (n : ℕ) → IfSome (i.contract n) (λ c. Account c.seller × Account c.buyer)

same_test : (a b : ℕ) → eqb a b ≡ eqb b a
same_test a b = grind (arith, nat_tests)

-- a function that is x at the number k alone, tested from the other side
pub sum_at : (n k : ℕ) (x : ℤ) → 1 ≤ k → k ≤ n → sum n (λ a. cond (eqb k a) x (pos 0)) ≡ x
sum_at n k x low high = sum_same n _ _ (λ a _ _. ap (λ t. cond t x (pos 0)) (same_test k a)) ∙ sum_single n k x low high

-- one contract gives to the accounts together nothing
pub contract_cancels : (i : Basis) (c : Option Bilateral) → IfSome c (λ d. Account d.seller × Account d.buyer) → sum accounts (λ a. from_contract i a c) ≡ pos 0
contract_cancels i None h = sum_zero accounts _ (λ a _ _. refl)
contract_cancels i (Some c) h =
    let x = i.usep *ℤ beq_of i c in
    sum_sub accounts (λ a. cond (eqb c.buyer a) x (pos 0)) (λ a. cond (eqb c.seller a) x (pos 0))
    ∙ ap (λ s. s -ℤ sum accounts (λ a. cond (eqb c.seller a) x (pos 0))) (sum_at accounts c.buyer x h.1.0 h.1.1)
    ∙ ap (λ s. x -ℤ s) (sum_at accounts c.seller x h.0.0 h.0.1)
    ∙ omega (arith, ints)

contracts_cancel : (i : Basis) → Parties i → sum accounts (bsc_of i) ≡ pos 0
unfolding bsc_of
contracts_cancel i p =
    sum_swap accounts contracts (λ a n. from_contract i a (i.contract n)) ∙ sum_zero contracts _ (λ n _ _. contract_cancels i (i.contract n) (p.traders n))

-- an account that takes the other side of all brings the sum to 0
pub balanced_cancels : (x : ℕ) (f : ℕ → ℤ) → Account x → sum accounts (balanced x f) ≡ pos 0
unfolding balanced
balanced_cancels x f h =
    let others : ℕ → ℤ = λ b. cond (eqb b x) (pos 0) (f b) in
    let all : ℤ = neg_ℤ (sum accounts others) in
    sum_same accounts (balanced x f) (λ a. cond (eqb a x) all (pos 0) +ℤ others a) (λ a _ _. parts (eqb a x) all (f a))
    ∙ sum_add accounts (λ a. cond (eqb a x) all (pos 0)) others
    ∙ ap (λ s. s +ℤ sum accounts others) (sum_single accounts x all h.0 h.1)
    ∙ omega (arith, ints)
  where
    parts : (t : Bool) (y z : ℤ) → cond t y z ≡ cond t y (pos 0) +ℤ cond t (pos 0) z
    parts true y z = omega (arith, ints)
    parts false y z = omega (arith, ints)

all_net : (i : Basis) → sum accounts (nasc_of i) ≡ sum accounts (gesc_of i) -ℤ sum accounts (lesd_of i) +ℤ sum accounts (bsc_of i) +ℤ sum accounts (vcsc_of i) -ℤ sum accounts (fee_of i) -ℤ sum accounts (heuc_of i)
unfolding nasc_of
all_net i =
    let one = sum_sub accounts (gesc_of i) (lesd_of i) in
    let two = sum_add accounts (λ a. gesc_of i a -ℤ lesd_of i a) (bsc_of i) in
    let three = sum_add accounts (λ a. gesc_of i a -ℤ lesd_of i a +ℤ bsc_of i a) (vcsc_of i) in
    let four = sum_sub accounts (λ a. gesc_of i a -ℤ lesd_of i a +ℤ bsc_of i a +ℤ vcsc_of i a) (fee_of i) in
    sum_sub accounts (λ a. gesc_of i a -ℤ lesd_of i a +ℤ bsc_of i a +ℤ vcsc_of i a -ℤ fee_of i a) (heuc_of i)
    ∙ ap (λ s. s -ℤ sum accounts (heuc_of i)) (four ∙ ap (λ s. s -ℤ sum accounts (fee_of i)) (three ∙ ap (λ s. s +ℤ sum accounts (vcsc_of i)) (two ∙ ap (λ s. s +ℤ sum accounts (bsc_of i)) one)))

-- the uplift is shared out where it finds a load or is nothing
pub shared_out : (i : Basis) → (0 < total_load i) ⊎ (heua_of i ≡ pos 0) → sum accounts (heuc_of i) ≡ heua_of i
shared_out i either =
    ⊎_elim (uplift_shared i).whole
    (λ none. ⊎_elim (λ e. sum_zero accounts (heuc_of i) (λ a _ _. (uplift_shared i).nothing a e) ∙ sym none) (uplift_shared i).whole (eq-zero-or-pos (total_load i)))
    either

net_of : (g l b v f h u p : ℤ) → b ≡ pos 0 → v ≡ pos 0 → f ≡ pos 0 → h ≡ u → u ≡ g -ℤ l +ℤ p → g -ℤ l +ℤ b +ℤ v -ℤ f -ℤ h ≡ neg_ℤ p
net_of g l b v f h u p one two three four five = omega (arith, ints)

pub conserved : (i : Basis) → Parties i → Conserved i
unfolding vcsc_of fee_of heua_of
conserved i p =
    let vesting : sum accounts (vcsc_of i) ≡ pos 0 = balanced_cancels i.counterparty (own_vcsc_of i) p.counterparty in
    let fees : sum accounts (fee_of i) ≡ pos 0 = balanced_cancels i.operator (own_fee_of i) p.operator in
    record {
      contracts = contracts_cancel i p;
      vesting = vesting;
      fees = fees;
      net = λ some. all_net i ∙ net_of (sum accounts (gesc_of i)) (sum accounts (lesd_of i)) (sum accounts (bsc_of i)) (sum accounts (vcsc_of i)) (sum accounts (fee_of i)) (sum accounts (heuc_of i)) (heua_of i) i.pending (contracts_cancel i p) vesting fees (shared_out i some) refl;
    }
