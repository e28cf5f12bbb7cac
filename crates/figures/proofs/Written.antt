-- The lines of a statement: each figure within its bound, and the running load that shares out the uplift.
use Rattle.std.proofs.Common.{◌≡◌, ℕ, suc, ◌+◌, ◌<◌, ◌⊎◌, List, length, get_or, set, ℤ, pos, ◌+ℤ◌, ◌-ℤ◌, ◌*ℤ◌, None, Option, sym, ap, ◌∙◌, subst, inl, inr, add-one, arith, get_or-set_other, get_or-set_same, w64, SFits, to_z, of_z}
use mir.Syntax.{w128}
use Rattle.std.specs.Option.{option_map}
use Rattle.std.proofs.lemmas.List.{get_or_default}
use Rattle.std.proofs.lemmas.Int.{ints}
use Rattle.std.proofs.lemmas.Bool.{cases_eq}
use Rattle.units.specs.Ranges.{Around, Within, accounts}
use Rattle.formulas.specs.Basis.{Basis, of_load}
use Rattle.formulas.specs.Figures.{bsc_of, fee_of, gesc_of, heua_of, heuc_of, lesd_of, nasc_of, vcsc_of, weq_of, borne, total_load}
use Rattle.figures.specs.Meaning.{amount_at, basis_of, withdrawal_of}
use Rattle.figures.specs.Settled.{LineIs}
use Rattle.formulas.specs.Sums.{sum}
use Rattle.figures.specs.Working.{nothing_injected}
use Rattle.records.specs.declared.inputs.Inputs.{Inputs}
use Rattle.figures.specs.declared.line.Line.{Line}
use Rattle.records.specs.declared.entries.LoadWithin.{LoadWithin}
use Rattle.figures.specs.declared.sums.Sums.{Sums}
use Rattle.formulas.proofs.Bounds.{bsc_around, fee_around, gesc_around, heuc_around, lesd_around, nasc_around, vcsc_around, weq_up_to, borne_upto_around, loads_up_to, loads_within}
use Rattle.figures.proofs.Gathered.{weq_at, inputs_in_ranges, total_gesc}
use Rattle.formulas.proofs.Shares.{share_is}
use Rattle.formulas.proofs.Steps.{sum_next}

-- the load at an account's place, whatever a read past the end would give
pub drawn_at : (i : Inputs) (k : ℕ) (o : Option (LoadWithin 0)) (w : ℤ) → k < length i.loads → w ≡ of_load (λ l. l.weq) (option_map withdrawal_of (get_or i.loads k o)) → w ≡ weq_of (basis_of i) (suc k)
drawn_at i k o w lt e = e ∙ ap (λ l. of_load (λ l. l.weq) (option_map withdrawal_of l)) (get_or_default i.loads k o None lt) ∙ weq_at i k

-- what a line is written from
pub record Six (i : Basis) (a : ℕ) (g l b v f h : ℤ) : Type 0 where
  pub gesc : g ≡ gesc_of i a
  pub lesd : l ≡ lesd_of i a
  pub bsc : b ≡ bsc_of i a
  pub vcsc : v ≡ vcsc_of i a
  pub fee : f ≡ fee_of i a
  pub heuc : h ≡ heuc_of i a

-- the figures at an account's place, as the code holds them
pub six_at : (s : Sums) (k : ℕ) (o : Option (LoadWithin 0)) (w l h : ℤ) → k < accounts → k < length s.injections.inputs.now.loads
    → w ≡ of_load (λ r. r.weq) (option_map withdrawal_of (get_or s.injections.inputs.now.loads k o)) → l ≡ s.injections.inputs.now.terms.usep.0 *ℤ w → h ≡ heuc_of (basis_of s.injections.inputs.now) (suc k)
    → Six (basis_of s.injections.inputs.now) (suc k) (get_or s.injections.injected k nothing_injected).gesc.0 l (amount_at s.contracts (suc k)) (amount_at s.vesting (suc k)) (amount_at s.fees (suc k)) h
unfolding lesd_of
six_at s k o w l h lt within drawn paid share = record {
  gesc = total_gesc _ _ _ (s.injections.totalled k lt);
  lesd = paid ∙ ap (λ z. s.injections.inputs.now.terms.usep.0 *ℤ z) (drawn_at s.injections.inputs.now k o w within drawn);
  bsc = s.contracts_ok (suc k) (omega arith);
  vcsc = s.vesting_ok (suc k) (omega arith);
  fee = s.fees_ok (suc k) (omega arith);
  heuc = share;
}

module _ (i : Inputs) (k : ℕ) (lt : k < accounts) (g l b v f h : ℤ) (six : Six (basis_of i) (suc k) g l b v f h) where
  -- no figure passes the bound of a line
  pub six_around : Around 1000000000000000000 g × Around 1000000000000000000 l × Around 1000000000000000000 b × Around 1000000000000000000 v × Around 1000000000000000000 f × Around 1000000000000000000 h
  six_around =
      let ok = inputs_in_ranges i in (
        omega (arith, ints, six.gesc, gesc_around (basis_of i) ok (suc k)),
        omega (arith, ints, six.lesd, lesd_around (basis_of i) ok (suc k)),
        omega (arith, ints, six.bsc, bsc_around (basis_of i) ok (suc k)),
        omega (arith, ints, six.vcsc, vcsc_around (basis_of i) ok (suc k)),
        omega (arith, ints, six.fee, fee_around (basis_of i) ok (suc k)),
        omega (arith, ints, six.heuc, heuc_around (basis_of i) ok (suc k) (omega arith)),
      )

  pub net_is : (n : ℤ) → n ≡ g -ℤ l +ℤ b +ℤ v -ℤ f -ℤ h → n ≡ nasc_of (basis_of i) (suc k)
  unfolding nasc_of
  net_is n e =
      e ∙ ap (λ z. z -ℤ l +ℤ b +ℤ v -ℤ f -ℤ h) six.gesc ∙ ap (λ z. gesc_of (basis_of i) (suc k) -ℤ z +ℤ b +ℤ v -ℤ f -ℤ h) six.lesd
      ∙ ap (λ z. gesc_of (basis_of i) (suc k) -ℤ lesd_of (basis_of i) (suc k) +ℤ z +ℤ v -ℤ f -ℤ h) six.bsc ∙ ap (λ z. gesc_of (basis_of i) (suc k) -ℤ lesd_of (basis_of i) (suc k) +ℤ bsc_of (basis_of i) (suc k) +ℤ z -ℤ f -ℤ h) six.vcsc
      ∙ ap (λ z. gesc_of (basis_of i) (suc k) -ℤ lesd_of (basis_of i) (suc k) +ℤ bsc_of (basis_of i) (suc k) +ℤ vcsc_of (basis_of i) (suc k) -ℤ z -ℤ h) six.fee
      ∙ ap (λ z. gesc_of (basis_of i) (suc k) -ℤ lesd_of (basis_of i) (suc k) +ℤ bsc_of (basis_of i) (suc k) +ℤ vcsc_of (basis_of i) (suc k) -ℤ fee_of (basis_of i) (suc k) -ℤ z) six.heuc

  pub net_around : (n : ℤ) → n ≡ g -ℤ l +ℤ b +ℤ v -ℤ f -ℤ h → Around 1000000000000000000 n
  net_around n e = rw (net_is n e) (nasc_around (basis_of i) (inputs_in_ranges i) (suc k) (omega arith))

-- one line more
pub lines_more : (i : Basis) (lines : List Line) (n : ℕ) (l : Line) → n < length lines → ((k : ℕ) → k < n → (d : Line) → LineIs i (suc k) (get_or lines k d)) → LineIs i (suc n) l
    → (k : ℕ) → k < n + 1 → (d : Line) → LineIs i (suc k) (get_or (set lines n l) k d)
lines_more i lines n l lt before new k h d = by (cases_eq k n)
  where
    by : (k ≡ n) ⊎ (k ≡ n → ⊥) → LineIs i (suc k) (get_or (set lines n l) k d)
    by (inl same) = subst (λ j. LineIs i (suc j) (get_or (set lines n l) j d)) (sym same) (subst (λ x. LineIs i (suc n) x) (sym (get_or-set_same lines n l d lt)) new)
    by (inr apart) = subst (λ x. LineIs i (suc k) x) (sym (get_or-set_other lines n k l d apart)) (before k (omega arith) d)

-- the load up to one account more, as the code holds it
pub load_more : (i : Inputs) (k : ℕ) (u w : ℤ) → k < accounts → u ≡ sum k (weq_of (basis_of i)) → w ≡ weq_of (basis_of i) (suc k)
    → SFits w64 (u +ℤ to_z w64 (of_z w64 w)) × (to_z w64 (of_z w64 (u +ℤ to_z w64 (of_z w64 w))) ≡ sum (k + 1) (weq_of (basis_of i))) × Within (pos 0) (pos (total_load (basis_of i))) (sum (k + 1) (weq_of (basis_of i)))
load_more i k u w lt p q =
    let ok = inputs_in_ranges i in
    let next = sum_next k (weq_of (basis_of i)) in
    let few = loads_up_to (basis_of i) ok k in
    let one = weq_up_to (basis_of i) ok (suc k) in
    (omega (arith, ints), omega (arith, ints), loads_within (basis_of i) ok (k + 1) (omega arith))

-- an account's share, as the code holds it
pub share_more : (i : Inputs) (k : ℕ) (b before : ℤ) → k < accounts → b ≡ borne (heua_of (basis_of i)) (total_load (basis_of i)) (sum (k + 1) (weq_of (basis_of i))) → before ≡ borne (heua_of (basis_of i)) (total_load (basis_of i)) (sum k (weq_of (basis_of i)))
    → SFits w128 (to_z w128 (of_z w128 b) -ℤ before) × (to_z w128 (of_z w128 (to_z w128 (of_z w128 b) -ℤ before)) ≡ heuc_of (basis_of i) (suc k))
share_more i k b before lt p q =
    let ok = inputs_in_ranges i in
    let one = borne_upto_around (basis_of i) ok (k + 1) (omega arith) in
    let two = borne_upto_around (basis_of i) ok k (omega arith) in
    let share : heuc_of (basis_of i) (suc k) ≡ b -ℤ before =
    share_is (basis_of i) k ∙ ap (λ n. borne (heua_of (basis_of i)) (total_load (basis_of i)) (sum n (weq_of (basis_of i))) -ℤ borne (heua_of (basis_of i)) (total_load (basis_of i)) (sum k (weq_of (basis_of i)))) (sym (add-one k))
    ∙ ap (λ z. z -ℤ borne (heua_of (basis_of i)) (total_load (basis_of i)) (sum k (weq_of (basis_of i)))) (sym p) ∙ ap (λ z. b -ℤ z) (sym q) in
    (omega (arith, ints), omega (arith, ints))
