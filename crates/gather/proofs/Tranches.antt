-- Vesting rows gathered in one list, three tranches for each account, and taken apart again.
use Rattle.std.proofs.Common.{◌≡◌, ℕ, zero, suc, ◌+◌, ◌*◌, ◌/◌, ◌%◌, ◌<◌, ◌≤◌, true, false, ◌&&◌, eqb, List, [], ◌∷◌, length, get_or, None, Option, sym, refl, subst, ap, ◌∙◌, ⊎_elim, arith}
use Rattle.std.specs.Array.{IsFromFnResultFrom}
use Rattle.std.specs.Fn.{Called, Mut}
use Rattle.std.specs.Option.{option_map}
use Rattle.std.proofs.lemmas.List.{get_or_past}
use Rattle.std.proofs.lemmas.Bool.{and_left, and_right, cases_eq, cases_lt, ne_eqb}
use Rattle.units.specs.Ranges.{accounts}
use Rattle.records.specs.Meaning.{no_tranches, tranche, tranches_of, vested_of}
use Rattle.records.specs.declared.inputs.Tranches.{Tranches}
use Rattle.records.specs.declared.entries.Vesting.{Vesting}
use Rattle.gather.specs.Gathered.{three_at, vested_in, vesting_key}
use Rattle.register.specs.Keys.{of_half_hour, same_list, tranche_key}
use Rattle.register.specs.Rows.{lookup}
use Rattle.rows.specs.declared.vesting.VestingRow.{VestingRow}
use Rattle.gather.proofs.Passes.{none_carries}

-- what an array holds that was made by calls, each of which leaves the callee as it should be
pub each_made : {F B : Type 0} (g : Mut F (ℕ × Unit {0}) B) (Q : F → Type 0) (P : ℕ → B → Type 0) → ((f : F) (i : ℕ) (y : B) (q : F) → Q f → Called g f (i, tt) y q → P i y × Q q)
    → (f : F) (ys : List B) (i n : ℕ) → Q f → IsFromFnResultFrom g f ys i n → (j : ℕ) (d : B) → i ≤ j → j < i + n → P j (get_or ys j d)
each_made g Q P step f ys i zero h e j d le lt = absurd (omega arith)
each_made g Q P step f ys i (suc n) h (q, y, at, called, rest) j d le lt =
    ⊎_elim
    (λ e. let R : ℕ → Type 0 = λ k. P k (get_or ys k d) in subst R e (let S : _ → Type 0 = P i in subst S (sym (at.1 d)) (step f i y q h called).0))
    (λ ne. each_made g Q P step q ys (i + 1) n (step f i y q h called).1 rest j d (omega arith) (omega arith))
    (cases_eq i j)

-- no account has a tranche that its number or the tranche's number rules out
absent : (rows : List (Option VestingRow)) (d t a n : ℕ) → ((r : VestingRow) → r.key.account ≡ a → r.key.tranche ≡ n → ⊥) → lookup vesting_key rows (tranche_key d t a n) ≡ None
absent rows d t a n h = none_carries vesting_key rows (tranche_key d t a n) (λ r. and_right (of_half_hour d t (vesting_key r)) (same_list (r.key.account ∷ r.key.tranche ∷ []) (a ∷ n ∷ [])) (differ r))
  where
    differ : (r : VestingRow) → same_list (r.key.account ∷ r.key.tranche ∷ []) (a ∷ n ∷ []) ≡ false
    differ r =
        ⊎_elim (λ e. and_right (eqb r.key.account a) (eqb r.key.tranche n && true) (and_left (eqb r.key.tranche n) true (ne_eqb r.key.tranche n (h r e))))
        (λ e. and_left (eqb r.key.account a) (eqb r.key.tranche n && true) (ne_eqb r.key.account a e)) (cases_eq r.key.account a)

no_tranche : (n : ℕ) → tranche no_tranches n ≡ None
no_tranche zero = refl
no_tranche (suc zero) = refl
no_tranche (suc (suc zero)) = refl
no_tranche (suc (suc (suc n))) = refl

-- what is held by account and tranche are the keys' rows
pub by_tranche : (rows : List (Option VestingRow)) (flat : List (Option Vesting)) (all : List Tranches) (d t : ℕ) → length all ≡ accounts
    → ((i : ℕ) → i < 3 * accounts → option_map vested_of (get_or flat i None) ≡ option_map vested_in (lookup vesting_key rows (tranche_key d t (suc (i / 3)) (i % 3))))
    → ((k : ℕ) → k < accounts → get_or all k no_tranches ≡ three_at flat k)
    → (a n : ℕ) → option_map vested_of (tranche (tranches_of all a) n) ≡ option_map vested_in (lookup vesting_key rows (tranche_key d t a n))
by_tranche rows flat all d t long h g zero n =
    ap (option_map vested_of) (no_tranche n) ∙ sym (ap (option_map vested_in) (absent rows d t 0 n (λ r e f. omega (arith, r.account_ok))))
by_tranche rows flat all d t long h g (suc k) n = ⊎_elim (λ l. inside l n) (λ l. outside l) (cases_lt k accounts)
  where
    outside : accounts ≤ k → option_map vested_of (tranche (get_or all k no_tranches) n) ≡ option_map vested_in (lookup vesting_key rows (tranche_key d t (suc k) n))
    outside l =
        ap (λ ts. option_map vested_of (tranche ts n)) (get_or_past all k no_tranches (omega arith)) ∙ ap (option_map vested_of) (no_tranche n)
        ∙ sym (ap (option_map vested_in) (absent rows d t (suc k) n (λ r e f. omega (arith, r.account_ok))))

    at : (i m : ℕ) → i < 3 * accounts → i / 3 ≡ k → i % 3 ≡ m → option_map vested_of (get_or flat i None) ≡ option_map vested_in (lookup vesting_key rows (tranche_key d t (suc k) m))
    at i m l e f = h i l ∙ ap (λ x. option_map vested_in (lookup vesting_key rows (tranche_key d t (suc x) (i % 3)))) e ∙ ap (λ x. option_map vested_in (lookup vesting_key rows (tranche_key d t (suc k) x))) f

    inside : k < accounts → (m : ℕ) → option_map vested_of (tranche (get_or all k no_tranches) m) ≡ option_map vested_in (lookup vesting_key rows (tranche_key d t (suc k) m))
    inside l zero = ap (λ ts. option_map vested_of ts.base) (g k l) ∙ at (3 * k) 0 (omega arith) (omega arith) (omega arith)
    inside l (suc zero) = ap (λ ts. option_map vested_of ts.first) (g k l) ∙ at (3 * k + 1) 1 (omega arith) (omega arith) (omega arith)
    inside l (suc (suc zero)) = ap (λ ts. option_map vested_of ts.second) (g k l) ∙ at (3 * k + 2) 2 (omega arith) (omega arith) (omega arith)
    inside l (suc (suc (suc m))) = sym (ap (option_map vested_in) (absent rows d t (suc k) (suc (suc (suc m))) (λ r e f. omega (arith, r.tranche_ok))))
