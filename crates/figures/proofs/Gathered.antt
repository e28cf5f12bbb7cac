-- The totals of every account's facilities, one facility after another, and what the inputs' own ranges say of them.
use Rattle.std.proofs.Common.{◌≡◌, ℕ, suc, ◌+◌, ◌-◌, ◌*◌, ◌<◌, ◌≤◌, Bool, true, false, cond, eqb, ◌⊎◌, List, length, get_or, set, ℤ, pos, negsuc, ◌+ℤ◌, ◌*ℤ◌, IfSome, Some, None, Option, sym, refl, ap, ◌∙◌, subst, inl, inr, arith, get_or-set_other, get_or-set_same}
use lib.IntN.{+ℤ_idr}
use Rattle.std.specs.Option.{option_map}
use Rattle.std.proofs.lemmas.Int.{ints}
use Rattle.std.proofs.lemmas.Bool.{cases_eq, eq-eqb, ne_eqb, cond-true, cond-false}
use Rattle.units.specs.Ranges.{Account, Around, Within, accounts}
use Rattle.units.specs.Division.{nearest}
use Rattle.formulas.specs.Basis.{Basis, Injection, facilities, of_account, of_load, over}
use Rattle.formulas.specs.Figures.{ieq_of, gesc_of, vcrp_of, weq_of, wfq_of, at_least_0, whole}
use Rattle.figures.specs.Meaning.{basis_of, injection_of, withdrawal_of, bilateral_of, vested_of, numbered, tranche, tranches_of}
use Rattle.figures.specs.Working.{AllTotalled, Grown, Priced, Roomy, Totalled, nothing_injected, price_from, upto}
use Rattle.figures.specs.declared.injected.Injected.{Injected}
use Rattle.records.specs.declared.inputs.Inputs.{Inputs}
use Rattle.records.specs.declared.entries.Contract.{Contract}
use Rattle.records.specs.declared.entries.FacilityWithin.{FacilityWithin}
use Rattle.records.specs.declared.entries.LoadWithin.{LoadWithin}
use Rattle.records.specs.declared.entries.Vesting.{Vesting}
use Rattle.formulas.proofs.Bounds.{InRanges, vcrp_around, injected_up_to, over_weighted, product_around}
use Rattle.formulas.proofs.Conservation.{Parties}
use Rattle.formulas.proofs.Steps.{sum_step}
use Rattle.formulas.proofs.Sums.{sum_none, sum_within}

-- the positive part of a number is no further from zero
pub part_around : (A : ℕ) (z : ℤ) → Around A z → Around A (at_least_0 z)
part_around A (pos n) h = h
part_around A (negsuc n) h = omega (arith, ints)

-- a facility goes to its own account
pub grown_own : (r : Injection) (x y : Injected) → pos y.count ≡ pos x.count +ℤ pos 1 → y.ieq.0 ≡ x.ieq.0 +ℤ r.ieq → y.injected.0 ≡ x.injected.0 +ℤ at_least_0 r.ieq
    → y.prices.0 ≡ x.prices.0 +ℤ r.mep → y.gesc.0 ≡ x.gesc.0 +ℤ r.mep *ℤ r.ieq → y.weighted.0 ≡ x.weighted.0 +ℤ r.mep *ℤ at_least_0 r.ieq → Grown r.account (Some r) x y
grown_own r x y count ieq injected prices gesc weighted =
    record { count = own (λ s. pos 1) (pos x.count) count; ieq = own (λ s. s.ieq) _ ieq; injected = own (λ s. at_least_0 s.ieq) _ injected; prices = own (λ s. s.mep) _ prices; gesc = own (λ s. s.mep *ℤ s.ieq) _ gesc; weighted = own (λ s. s.mep *ℤ at_least_0 s.ieq) _ weighted }
  where
    own : (f : Injection → ℤ) (v : ℤ) {w : ℤ} → w ≡ v +ℤ f r → w ≡ v +ℤ of_account r.account f (Some r)
    own f v e = e ∙ ap (λ z. v +ℤ z) (sym (cond-true (eqb r.account r.account) (f r) (pos 0) (eq-eqb r.account r.account refl)))

-- a facility of another account leaves the totals
pub grown_other : (a : ℕ) (r : Injection) (x : Injected) → (r.account ≡ a → ⊥) → Grown a (Some r) x x
grown_other a r x apart =
    record { count = same (λ s. pos 1) _; ieq = same (λ s. s.ieq) _; injected = same (λ s. at_least_0 s.ieq) _; prices = same (λ s. s.mep) _; gesc = same (λ s. s.mep *ℤ s.ieq) _; weighted = same (λ s. s.mep *ℤ at_least_0 s.ieq) _ }
  where
    same : (f : Injection → ℤ) (z : ℤ) → z ≡ z +ℤ of_account a f (Some r)
    same f z = sym (ap (λ y. z +ℤ y) (cond-false (eqb r.account a) (f r) (pos 0) (ne_eqb r.account a apart)) ∙ +ℤ_idr z)

-- one facility goes to its own account's totals, and to no other's
pub added : {far : ℕ} (all : List Injected) (f : FacilityWithin far) (v : Injected) → length all ≡ accounts → Grown f.account (Some (injection_of f)) (get_or all (f.account - 1) nothing_injected) v
    → (k : ℕ) → k < accounts → Grown (suc k) (Some (injection_of f)) (get_or all k nothing_injected) (get_or (set all (f.account - 1) v) k nothing_injected)
added {far} all f v long grown k h = by (cases_eq (suc k) f.account)
  where
    by : (suc k ≡ f.account) ⊎ (suc k ≡ f.account → ⊥) → Grown (suc k) (Some (injection_of f)) (get_or all k nothing_injected) (get_or (set all (f.account - 1) v) k nothing_injected)
    by (inl e) =
        let same : f.account - 1 ≡ k = omega arith in
        let lt : k < length all = omega arith in
        let here : Grown f.account (Some (injection_of f)) (get_or all k nothing_injected) v = subst (λ j. Grown f.account (Some (injection_of f)) (get_or all j nothing_injected) v) same grown in
        let put : v ≡ get_or (set all (f.account - 1) v) k nothing_injected = sym (ap (λ j. get_or (set all j v) k nothing_injected) same ∙ get_or-set_same all k v nothing_injected lt) in
        subst (λ y. Grown (suc k) (Some (injection_of f)) (get_or all k nothing_injected) y) put (subst (λ a. Grown a (Some (injection_of f)) (get_or all k nothing_injected) v) (sym e) here)
    by (inr ne) =
        let apart : k ≡ f.account - 1 → ⊥ = λ p. ne (omega (arith, f.account_ok.0)) in
        subst (λ y. Grown (suc k) (Some (injection_of f)) (get_or all k nothing_injected) y) (sym (get_or-set_other all (f.account - 1) k v nothing_injected apart)) (grown_other (suc k) (injection_of f) _ (λ p. ne (sym p)))

-- no facility leaves the totals
pub grown_none : (a : ℕ) (x : Injected) → Grown a None x x
grown_none a x = record { count = sym (+ℤ_idr _); ieq = sym (+ℤ_idr _); injected = sym (+ℤ_idr _); prices = sym (+ℤ_idr _); gesc = sym (+ℤ_idr _); weighted = sym (+ℤ_idr _) }

pub totalled_none : (facility : ℕ → Option Injection) (a : ℕ) → Totalled facility 0 a nothing_injected
totalled_none facility a = record { count = sym (sum_none _); ieq = sym (sum_none _); injected = sym (sum_none _); prices = sym (sum_none _); gesc = sym (sum_none _); weighted = sym (sum_none _) }

pub totalled_more : (facility : ℕ → Option Injection) (n a : ℕ) (x y : Injected) → Totalled facility n a x → Grown a (facility (suc n)) x y → Totalled facility (n + 1) a y
totalled_more facility n a x y t g =
    record { count = step _ t.count g.count; ieq = step _ t.ieq g.ieq; injected = step _ t.injected g.injected; prices = step _ t.prices g.prices; gesc = step _ t.gesc g.gesc; weighted = step _ t.weighted g.weighted }
  where
    step : (f : Injection → ℤ) {v w : ℤ} → v ≡ upto facility n a f → w ≡ v +ℤ of_account a f (facility (suc n)) → w ≡ upto facility (n + 1) a f
    step f {v} {w} p q = sum_step n (λ m. of_account a f (facility m)) v w p q

-- a facility lies in the widest range
pub far_within : {far : ℕ} (f : FacilityWithin far) → Around 20000000 f.ieq.0
far_within f = omega (arith, ints, f.far_ok, f.ieq_ok)

pub far_in_range : {far : ℕ} (o : Option (FacilityWithin far)) → IfSome (option_map injection_of o) (λ r. Around 1000000 r.mep × Around 20000000 r.ieq)
far_in_range None = tt
far_in_range (Some f) = (f.mep_ok, far_within f)

module _ (facility : ℕ → Option Injection) (ok : (n : ℕ) → IfSome (facility n) (λ r. Around 1000000 r.mep × Around 20000000 r.ieq)) where
  upto_around : (n B a : ℕ) (f : Injection → ℤ) → ((r : Injection) → Around 1000000 r.mep × Around 20000000 r.ieq → Around B (f r)) → Around (n * B) (upto facility n a f)
  upto_around n B a f h = sum_within n B _ (λ m _ _. one (facility m) (ok m))
    where
      by : (r : Injection) → Around B (f r) → (t : Bool) → Around B (cond t (f r) (pos 0))
      by r k true = k
      by r k false = omega (arith, ints)

      one : (o : Option Injection) → IfSome o (λ r. Around 1000000 r.mep × Around 20000000 r.ieq) → Around B (of_account a f o)
      one None k = omega (arith, ints)
      one (Some r) k = by r (h r k) (eqb r.account a)

  pub gesc_upto : (n a : ℕ) → Around (n * 20000000000000) (upto facility n a (λ r. r.mep *ℤ r.ieq))
  gesc_upto n a = upto_around n 20000000000000 a (λ r. r.mep *ℤ r.ieq) (λ r h. product_around 1000000 20000000 r.mep r.ieq h.0 h.1)

  pub ieq_upto : (n a : ℕ) → Around (n * 20000000) (upto facility n a (λ r. r.ieq))
  ieq_upto n a = upto_around n 20000000 a (λ r. r.ieq) (λ r h. h.1)

  -- what is totalled of few facilities leaves room for one more
  pub totalled_roomy : (n a : ℕ) (x : Injected) → n ≤ 128 → Totalled facility n a x → Roomy x
  totalled_roomy n a x few t = record {
    count = omega (arith, ints, upto_around n 1 a (λ r. pos 1) (λ r h. omega (arith, ints)), t.count);
    ieq = omega (arith, ints, ieq_upto n a, t.ieq);
    injected = omega (arith, ints, upto_around n 20000000 a (λ r. at_least_0 r.ieq) (λ r h. part_around _ r.ieq h.1), t.injected);
    prices = omega (arith, ints, upto_around n 1000000 a (λ r. r.mep) (λ r h. h.0), t.prices);
    gesc = omega (arith, ints, gesc_upto n a, t.gesc);
    weighted = omega (arith, ints, upto_around n 20000000000000 a (λ r. r.mep *ℤ at_least_0 r.ieq) (λ r h. product_around 1000000 20000000 r.mep _ h.0 (part_around _ r.ieq h.1)), t.weighted);
  }

-- what the totals of all facilities are, by the figures' names
module _ (i : Basis) (a : ℕ) (x : Injected) (t : Totalled i.facility facilities a x) where
  pub total_ieq : x.ieq.0 ≡ ieq_of i a
  unfolding ieq_of over
  total_ieq = t.ieq

  pub total_gesc : x.gesc.0 ≡ gesc_of i a
  unfolding gesc_of over
  total_gesc = t.gesc

  pub total_vcrp : price_from x ≡ vcrp_of i a
  unfolding vcrp_of over
  total_vcrp =
      ap (λ z. cond (eqb (whole z) 0) (nearest x.prices.0 x.count) (nearest x.weighted.0 (whole z))) t.injected
      ∙ ap (λ z. cond (eqb (whole injected) 0) (nearest z x.count) (nearest x.weighted.0 (whole injected))) t.prices
      ∙ ap (λ z. cond (eqb (whole injected) 0) (nearest (upto i.facility facilities a (λ r. r.mep)) (whole z)) (nearest x.weighted.0 (whole injected))) t.count
      ∙ ap (λ z. cond (eqb (whole injected) 0) (nearest (upto i.facility facilities a (λ r. r.mep)) (whole (upto i.facility facilities a (λ r. pos 1)))) (nearest z (whole injected))) t.weighted
    where
      injected : ℤ
      injected = upto i.facility facilities a (λ r. at_least_0 r.ieq)

-- the totals of all facilities give a reference price
pub totalled_priced : (i : Basis) → InRanges i → (a : ℕ) (x : Injected) → Totalled i.facility facilities a x → Priced x
unfolding over
totalled_priced i ok a x t = record {
  injected = omega (arith, ints, t.injected, injected_up_to i ok a);
  nothing = λ none. omega (arith, ints, t.count, t.prices, over_weighted i ok a (λ r. r.mep) (λ r. pos 1) (λ r h. omega (arith, ints)));
  price = rw (total_vcrp i a x t) (vcrp_around i ok a);
}

-- the totals of an account
pub totalled_at : (facility : ℕ → Option Injection) (xs : List Injected) (a : ℕ) → AllTotalled facility xs → Account a → Totalled facility facilities a (get_or xs (a - 1) nothing_injected)
totalled_at facility xs a t ok =
    let next : suc (a - 1) ≡ a = omega arith in
    subst (λ b. Totalled facility facilities b (get_or xs (a - 1) nothing_injected)) next (t (a - 1) (omega arith))

-- the withdrawn energy, and that on which fees are paid, of the load at an account's place
pub weq_at : (i : Inputs) (k : ℕ) → of_load (λ l. l.weq) (option_map withdrawal_of (get_or i.loads k None)) ≡ weq_of (basis_of i) (suc k)
unfolding weq_of
weq_at i k = refl

pub wfq_at : (i : Inputs) (k : ℕ) → of_load (λ l. l.wfq) (option_map withdrawal_of (get_or i.loads k None)) ≡ wfq_of (basis_of i) (suc k)
unfolding wfq_of
wfq_at i k = refl

-- no number of the inputs lies outside its range
pub inputs_in_ranges : (i : Inputs) → InRanges (basis_of i)
inputs_in_ranges i = record {
  usep = i.terms.usep_ok;
  rate = i.terms.rate_ok;
  pending = i.terms.pending_ok;
  facility = λ n. facility (numbered i.facilities n);
  load = λ a. load (numbered i.loads a);
  contract = λ n. contract (numbered i.contracts n);
  vesting = λ a t. vesting (tranche (tranches_of i.vestings a) t);
}
  where
    facility : (o : Option (FacilityWithin 10000000)) → IfSome (option_map injection_of o) (λ r. Around 1000000 r.mep × Around 10000000 r.ieq)
    facility None = tt
    facility (Some f) = (f.mep_ok, f.ieq_ok)

    load : (o : Option (LoadWithin 0)) → IfSome (option_map withdrawal_of o) (λ l. Within (pos 0) (pos 10000000) l.weq × Within (pos 0) (pos 10000000) l.wfq)
    load None = tt
    load (Some l) = (l.weq_ok, l.wfq_ok)

    contract : (o : Option Contract) → IfSome (option_map bilateral_of o) (λ c. Within (pos 0) (pos 10000000) c.baq × (c.bwf ≤ 10000) × (c.bif ≤ 10000))
    contract None = tt
    contract (Some c) = (c.baq_ok, c.bwf_ok, c.bif_ok)

    vesting : (o : Option Vesting) → IfSome (option_map vested_of o) (λ v. Around 1000000 v.price × Within (pos 0) (pos 10000000) v.quantity)
    vesting None = tt
    vesting (Some v) = (v.price_ok, v.quantity_ok)

-- every party of the inputs is an account
pub inputs_parties : (i : Inputs) → Parties (basis_of i)
inputs_parties i = record { counterparty = i.terms.counterparty_ok; operator = i.terms.operator_ok; traders = λ n. traders (numbered i.contracts n) }
  where
    traders : (o : Option Contract) → IfSome (option_map bilateral_of o) (λ c. Account c.seller × Account c.buyer)
    traders None = tt
    traders (Some c) = (c.seller_ok, c.buyer_ok)
