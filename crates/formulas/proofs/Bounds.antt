-- How large the figures of a half hour are, where what they are worked from lies in its ranges.
use Rattle.std.proofs.Common.{◌≡◌, ℕ, zero, suc, ◌+◌, ◌*◌, ◌<◌, ◌≤◌, Bool, true, false, cond, eqb, ℤ, pos, negsuc, ◌+ℤ◌, ◌-ℤ◌, ◌*ℤ◌, neg_ℤ, ◌≤ℤ◌, ◌<ℤ◌, IfSome, Some, None, Option, sym, refl, ap, ◌∙◌, subst, mul-le-mul_right, suc-mul, div-lt_iff_lt-mul, mul-le-mul, mul_left_comm, arith}
use native.Mathlib.Nat.{div-zero}
use Rattle.std.proofs.lemmas.Int.{ints}
use Rattle.units.specs.Division.{floor, nearest}
use Rattle.units.specs.Ranges.{Account, Around, Within, accounts}
use Rattle.formulas.specs.Basis.{Basis, Bilateral, Injection, Vested, Withdrawal, contracts, facilities, of_account, of_load, over}
use Rattle.formulas.specs.Figures.{beq_of, bsc_of, fee_of, gesc_of, heua_of, heuc_of, ieq_of, lesd_of, nasc_of, vcrp_of, vcsc_of, weq_of, wfq_of, at_least_0, balanced, borne, from_contract, from_vesting, own_fee_of, own_vcsc_of, part, total_load, whole, heur_of}
use Rattle.formulas.specs.Sums.{sum}
use Rattle.formulas.proofs.Sums.{sum_at_most, sum_grows, sum_neg, sum_scale, sum_up_to, sum_within}
use Rattle.formulas.proofs.Shares.{borne_some, share_is}
use lib.Dec.{eqb-suc-zero}

-- all that the figures are worked from lies in its range
pub record InRanges (i : Basis) : Type 0 where
  pub usep : Around 1000000 i.usep
  pub rate : Within (pos 0) (pos 100000) i.rate
  pub pending : Around 100000000000000000 i.pending
  pub facility : (n : ℕ) → IfSome (i.facility n) (λ r. Around 1000000 r.mep × Around 10000000 r.ieq)
  pub load : (a : ℕ) → IfSome (i.load a) (λ l. Within (pos 0) (pos 10000000) l.weq × Within (pos 0) (pos 10000000) l.wfq)
  pub contract : (n : ℕ) → IfSome (i.contract n) (λ c. Within (pos 0) (pos 10000000) c.baq × (c.bwf ≤ 10000) × (c.bif ≤ 10000))
  pub vesting : (a t : ℕ) → IfSome (i.vesting a t) (λ v. Around 1000000 v.price × Within (pos 0) (pos 10000000) v.quantity)

-- products and quotients

pub product_around : (A B : ℕ) (x y : ℤ) → Around A x → Around B y → Around (A * B) (x *ℤ y)
product_around A B (pos m) (pos n) h k =
    let one : m ≤ A = omega (arith, ints) in
    let two : n ≤ B = omega (arith, ints) in
    omega (arith, ints, mul-le-mul one two)
product_around A B (pos m) (negsuc n) h k =
    let one : m ≤ A = omega (arith, ints) in
    let two : suc n ≤ B = omega (arith, ints) in
    omega (arith, ints, mul-le-mul one two)
product_around A B (negsuc m) (pos n) h k =
    let one : suc m ≤ A = omega (arith, ints) in
    let two : n ≤ B = omega (arith, ints) in
    omega (arith, ints, mul-le-mul one two)
product_around A B (negsuc m) (negsuc n) h k =
    let one : suc m ≤ A = omega (arith, ints) in
    let two : suc n ≤ B = omega (arith, ints) in
    omega (arith, ints, mul-le-mul one two)

pub product_up_to : (A B : ℕ) (x y : ℤ) → Within (pos 0) (pos A) x → Within (pos 0) (pos B) y → Within (pos 0) (pos (A * B)) (x *ℤ y)
product_up_to A B (pos m) (pos n) h k =
    let one : m ≤ A = omega (arith, ints) in
    let two : n ≤ B = omega (arith, ints) in
    omega (arith, ints, mul-le-mul one two)
product_up_to A B (pos m) (negsuc n) h k = absurd (omega (arith, ints))
product_up_to A B (negsuc m) y h k = absurd (omega (arith, ints))

-- a quotient by d of what lies no further from 0 than A times d, with less than d to spare above
pub floor_around : (A d : ℕ) (z : ℤ) → 0 < d → (neg_ℤ (pos (A * d))) ≤ℤ z → z <ℤ (pos (A * d + d)) → Around A (floor z d)
floor_around A d (pos n) some low high =
    let less : n < suc A * d = omega (arith, ints, suc-mul A d) in
    omega (arith, ints, (div-lt_iff_lt-mul some).1 less)
floor_around A d (negsuc n) some low high =
    let less : n < A * d = omega (arith, ints) in
    omega (arith, ints, (div-lt_iff_lt-mul some).1 less)

pub floor_up_to : (A d : ℕ) (z : ℤ) → 0 < d → Within (pos 0) (pos (A * d)) z → Within (pos 0) (pos A) (floor z d)
floor_up_to A d (pos n) some h =
    let less : n < suc A * d = omega (arith, ints, suc-mul A d) in
    omega (arith, ints, (div-lt_iff_lt-mul some).1 less)
floor_up_to A d (negsuc n) some h = absurd (omega (arith, ints))

-- a quotient by 0
by_zero : (A : ℕ) (z : ℤ) → 0 < A → Around A (floor z 0)
by_zero A (pos n) some = omega (arith, ints, div-zero n)
by_zero A (negsuc n) some = omega (arith, ints, div-zero n)

pub nearest_around : (A d : ℕ) (n : ℤ) → 0 < A → Around (A * d) n → Around A (nearest n d)
nearest_around A zero n some h = by_zero A (pos 2 *ℤ n +ℤ pos 0) some
nearest_around A (suc d) n some h =
    let twice : A * (2 * suc d) ≡ 2 * (A * suc d) = mul_left_comm A 2 (suc d) in
    floor_around A (2 * suc d) (pos 2 *ℤ n +ℤ pos (suc d)) (omega arith) (omega (arith, ints)) (omega (arith, ints))

pub at_least_0_up_to : (A : ℕ) (z : ℤ) → Around A z → Within (pos 0) (pos A) (at_least_0 z)
at_least_0_up_to A (pos n) h = omega (arith, ints)
at_least_0_up_to A (negsuc n) h = omega (arith, ints)

-- hundredths of a percent of a quantity are at most that quantity
pub part_up_to : (A n : ℕ) (q : ℤ) → n ≤ 10000 → Within (pos 0) (pos A) q → Within (pos 0) (pos A) (part n q)
part_up_to A n q h k =
    let product : Within (pos 0) (pos (10000 * A)) (pos n *ℤ q) = product_up_to 10000 A (pos n) q (omega (arith, ints)) k in
    floor_up_to A 10000 (pos n *ℤ q) (omega arith) (omega (arith, ints))

-- a load is borne by no more than the whole
pub borne_around : (A w : ℕ) (h c : ℤ) → Around A h → Within (pos 0) (pos w) c → Around A (borne h w c)
borne_around A zero h c k l = omega (arith, ints)
borne_around A (suc w) h c k l =
    let product : Around (A * suc w) (h *ℤ c) = product_around A (suc w) h c k (omega (arith, ints)) in
    subst (Around A) (sym (borne_some h (suc w) c (omega arith))) (floor_around A (suc w) (h *ℤ c) (omega arith) product.0 (omega (arith, ints)))

-- sums over the facilities of an account

module _ (a : ℕ) (f : Injection → ℤ) where
  of_account_around : (B : ℕ) (o : Option Injection) → IfSome o (λ r. Around B (f r)) → Around B (of_account a f o)
  of_account_around B None h = omega (arith, ints)
  of_account_around B (Some r) h = by (eqb r.account a)
    where
      by : (t : Bool) → Around B (cond t (f r) (pos 0))
      by true = h
      by false = omega (arith, ints)

  of_account_up_to : (B : ℕ) (o : Option Injection) → IfSome o (λ r. Within (pos 0) (pos B) (f r)) → Within (pos 0) (pos B) (of_account a f o)
  of_account_up_to B None h = omega (arith, ints)
  of_account_up_to B (Some r) h = by (eqb r.account a)
    where
      by : (t : Bool) → Within (pos 0) (pos B) (cond t (f r) (pos 0))
      by true = h
      by false = omega (arith, ints)

-- what holds of a value in its range, where there is one
by_case : {X : Type 0} {P Q : X → Type 0} (o : Option X) → ((x : X) → P x → Q x) → IfSome o P → IfSome o Q
by_case None f h = tt
by_case (Some x) f h = f x h

-- f summed over the first n facilities, those of account a
pub over_around : (i : Basis) → InRanges i → (n B a : ℕ) (f : Injection → ℤ) → ((r : Injection) → Around 1000000 r.mep × Around 10000000 r.ieq → Around B (f r)) → Around (n * B) (sum n (λ m. of_account a f (i.facility m)))
over_around i k n B a f h = sum_within n B _ (λ m _ _. of_account_around a f B (i.facility m) (by_case (i.facility m) h (k.facility m)))

pub over_up_to : (i : Basis) → InRanges i → (n B a : ℕ) (f : Injection → ℤ) → ((r : Injection) → Around 1000000 r.mep × Around 10000000 r.ieq → Within (pos 0) (pos B) (f r)) → Within (pos 0) (pos (n * B)) (sum n (λ m. of_account a f (i.facility m)))
over_up_to i k n B a f h = sum_up_to n B _ (λ m _ _. of_account_up_to a f B (i.facility m) (by_case (i.facility m) h (k.facility m)))

-- x lies no further from 0 than P times y
abbrev pub Weighted : ℕ → ℤ → ℤ → Type 0
Weighted P x y = ((neg_ℤ (pos P *ℤ y)) ≤ℤ x) × (x ≤ℤ (pos P *ℤ y))

sum_weighted : (n P : ℕ) (f g : ℕ → ℤ) → ((k : ℕ) → Weighted P (f k) (g k)) → Weighted P (sum n f) (sum n g)
sum_weighted n P f g h =
    let scaled : sum n (λ k. pos P *ℤ g k) ≡ pos P *ℤ sum n g = sum_scale n (pos P) g in
    let below : sum n (λ k. neg_ℤ (pos P *ℤ g k)) ≡ neg_ℤ (pos P *ℤ sum n g) = sum_neg n (λ k. pos P *ℤ g k) ∙ ap neg_ℤ scaled in
    (subst (λ x. x ≤ℤ sum n f) below (sum_at_most n _ f (λ k _ _. (h k).0)), subst (λ x. (sum n f) ≤ℤ x) scaled (sum_at_most n f _ (λ k _ _. (h k).1)))

of_account_weighted : (P a : ℕ) (f g : Injection → ℤ) (o : Option Injection) → IfSome o (λ r. Weighted P (f r) (g r)) → Weighted P (of_account a f o) (of_account a g o)
of_account_weighted P a f g None h = omega (arith, ints)
of_account_weighted P a f g (Some r) h = by (eqb r.account a)
  where
    by : (t : Bool) → Weighted P (cond t (f r) (pos 0)) (cond t (g r) (pos 0))
    by true = h
    by false = omega (arith, ints)

-- a price times an energy that counts from 0
priced : (P : ℕ) (p q : ℤ) → Around P p → Weighted P (p *ℤ at_least_0 q) (at_least_0 q)
priced P (pos m) (pos n) h =
    let low : m ≤ P = omega (arith, ints) in
    omega (arith, ints, mul-le-mul_right n low)
priced P (negsuc m) (pos n) h =
    let low : suc m ≤ P = omega (arith, ints) in
    omega (arith, ints, mul-le-mul_right n low)
priced P p (negsuc n) h = omega (arith, ints)

-- an average with weights from 0 lies where its terms lie
pub average_around : (P : ℕ) (x y : ℤ) → 0 < P → pos 0 ≤ℤ y → Weighted P x y → Around P (nearest x (whole y))
average_around P x (pos n) some h k = nearest_around P n x some k
average_around P x (negsuc n) some h k = absurd (omega (arith, ints))

-- the figures

module _ (i : Basis) (k : InRanges i) where
  pub gesc_around : (a : ℕ) → Around 1280000000000000 (gesc_of i a)
  unfolding gesc_of over
  gesc_around a = over_around i k facilities 10000000000000 a (λ r. r.mep *ℤ r.ieq) (λ r h. product_around 1000000 10000000 r.mep r.ieq h.0 h.1)

  pub summed_ieq_around : (a : ℕ) → Around 1280000000 (ieq_of i a)
  unfolding ieq_of over
  summed_ieq_around a = over_around i k facilities 10000000 a (λ r. r.ieq) (λ r h. h.1)

  load_up_to : (f : Withdrawal → ℤ) (o : Option Withdrawal) → IfSome o (λ l. Within (pos 0) (pos 10000000) (f l)) → Within (pos 0) (pos 10000000) (of_load f o)
  load_up_to f None h = omega (arith, ints)
  load_up_to f (Some l) h = h

  pub weq_up_to : (a : ℕ) → Within (pos 0) (pos 10000000) (weq_of i a)
  unfolding weq_of
  weq_up_to a = load_up_to (λ l. l.weq) (i.load a) (by_case (i.load a) (λ l h. h.0) (k.load a))

  pub wfq_up_to : (a : ℕ) → Within (pos 0) (pos 10000000) (wfq_of i a)
  unfolding wfq_of
  wfq_up_to a = load_up_to (λ l. l.wfq) (i.load a) (by_case (i.load a) (λ l h. h.1) (k.load a))

  pub lesd_around : (a : ℕ) → Around 10000000000000 (lesd_of i a)
  unfolding lesd_of
  lesd_around a = product_around 1000000 10000000 i.usep (weq_of i a) k.usep (omega (arith, ints, weq_up_to a))

  pub beq_up_to : (c : Bilateral) → Within (pos 0) (pos 10000000) c.baq × (c.bwf ≤ 10000) × (c.bif ≤ 10000) → Within (pos 0) (pos 1300000000) (beq_of i c)
  unfolding beq_of
  beq_up_to c h =
      let drawn = part_up_to 10000000 c.bwf (weq_of i c.buyer) h.1 (weq_up_to c.buyer) in
      let made = part_up_to 1280000000 c.bif (at_least_0 (ieq_of i c.seller)) h.2 (at_least_0_up_to 1280000000 (ieq_of i c.seller) (summed_ieq_around c.seller)) in
      added c.baq (part c.bwf (weq_of i c.buyer)) (part c.bif (at_least_0 (ieq_of i c.seller))) h.0 drawn made
    where
      added : (x y z : ℤ) → Within (pos 0) (pos 10000000) x → Within (pos 0) (pos 10000000) y → Within (pos 0) (pos 1280000000) z → Within (pos 0) (pos 1300000000) (x +ℤ y +ℤ z)
      added x y z f g h = omega (arith, ints)

  pub contract_around : (a : ℕ) (o : Option Bilateral) → IfSome o (λ c. Within (pos 0) (pos 10000000) c.baq × (c.bwf ≤ 10000) × (c.bif ≤ 10000)) → Around 1300000000000000 (from_contract i a o)
  contract_around a None h = omega (arith, ints)
  contract_around a (Some c) h = by (eqb c.buyer a) (eqb c.seller a) (i.usep *ℤ beq_of i c) (product_around 1000000 1300000000 i.usep (beq_of i c) k.usep (omega (arith, ints, beq_up_to c h)))
    where
      by : (s t : Bool) (x : ℤ) → Around 1300000000000000 x → Around 1300000000000000 (cond s x (pos 0) -ℤ cond t x (pos 0))
      by true true x h = omega (arith, ints)
      by true false x h = omega (arith, ints)
      by false true x h = omega (arith, ints)
      by false false x h = omega (arith, ints)

  pub bsc_around : (a : ℕ) → Around 83200000000000000 (bsc_of i a)
  unfolding bsc_of
  bsc_around a = sum_within contracts 1300000000000000 _ (λ n _ _. contract_around a (i.contract n) (k.contract n))

  -- the energy that the account's facilities injected, each from 0
  pub injected_up_to : (a : ℕ) → Within (pos 0) (pos 1280000000) (over i.facility a (λ r. at_least_0 r.ieq))
  unfolding over
  injected_up_to a = over_up_to i k facilities 10000000 a (λ r. at_least_0 r.ieq) (λ r h. at_least_0_up_to 10000000 r.ieq h.1)

  -- how many facilities the account has
  pub counted_up_to : (a : ℕ) → Within (pos 0) (pos 128) (over i.facility a (λ r. pos 1))
  unfolding over
  counted_up_to a = over_up_to i k facilities 1 a (λ r. pos 1) (λ r h. omega (arith, ints))

  pub over_weighted : (a : ℕ) (f g : Injection → ℤ) → ((r : Injection) → Around 1000000 r.mep → Weighted 1000000 (f r) (g r)) → Weighted 1000000 (over i.facility a f) (over i.facility a g)
  unfolding over
  over_weighted a f g h = sum_weighted facilities 1000000 _ _ (λ m. of_account_weighted 1000000 a f g (i.facility m) (by_case (i.facility m) (λ r e. h r e.0) (k.facility m)))

  pub vcrp_around : (a : ℕ) → Around 1000000 (vcrp_of i a)
  unfolding vcrp_of
  vcrp_around a =
      by (eqb (whole (over i.facility a (λ r. at_least_0 r.ieq))) 0) _ _
      (average_around 1000000 _ _ (omega arith) (counted_up_to a).0 (over_weighted a (λ r. r.mep) (λ r. pos 1) (λ r h. omega (arith, ints))))
      (average_around 1000000 _ _ (omega arith) (injected_up_to a).0 (over_weighted a (λ r. r.mep *ℤ at_least_0 r.ieq) (λ r. at_least_0 r.ieq) (λ r h. priced 1000000 r.mep r.ieq h)))
    where
      by : (t : Bool) (x y : ℤ) → Around 1000000 x → Around 1000000 y → Around 1000000 (cond t x y)
      by true x y h k = h
      by false x y h k = k

  pub tranche_around : (p : ℤ) (o : Option Vested) → Around 1000000 p → IfSome o (λ v. Around 1000000 v.price × Within (pos 0) (pos 10000000) v.quantity) → Around 20000000000000 (from_vesting p o)
  tranche_around p None h j = omega (arith, ints)
  tranche_around p (Some v) h j = product_around 2000000 10000000 (v.price -ℤ p) v.quantity (omega (arith, ints)) (omega (arith, ints))

  pub own_vcsc_around : (a : ℕ) → Around 60000000000000 (own_vcsc_of i a)
  unfolding own_vcsc_of
  own_vcsc_around a =
      added _ _ _ (tranche_around (vcrp_of i a) (i.vesting a 0) (vcrp_around a) (k.vesting a 0)) (tranche_around (vcrp_of i a) (i.vesting a 1) (vcrp_around a) (k.vesting a 1)) (tranche_around (vcrp_of i a) (i.vesting a 2) (vcrp_around a) (k.vesting a 2))
    where
      added : (x y z : ℤ) → Around 20000000000000 x → Around 20000000000000 y → Around 20000000000000 z → Around 60000000000000 (x +ℤ y +ℤ z)
      added x y z f g h = omega (arith, ints)

-- an account that takes the other side of all is no further from 0 than all together
pub balanced_around : (B x : ℕ) (f : ℕ → ℤ) → ((b : ℕ) → Around B (f b)) → (a : ℕ) → Around (accounts * B) (balanced x f a)
unfolding balanced
balanced_around B x f h a = by (eqb a x) (λ b. others (eqb b x) (f b) (h b))
  where
    others : (t : Bool) (y : ℤ) → Around B y → Around B (cond t (pos 0) y)
    others true y g = omega (arith, ints)
    others false y g = g

    by : (t : Bool) → ((b : ℕ) → Around B (cond (eqb b x) (pos 0) (f b))) → Around (accounts * B) (cond t (neg_ℤ (sum accounts (λ b. cond (eqb b x) (pos 0) (f b)))) (f a))
    by true g = let all = sum_within accounts B _ (λ b _ _. g b) in omega (arith, ints)
    by false g = omega (arith, ints, h a)

module _ (i : Basis) (k : InRanges i) where
  pub vcsc_around : (a : ℕ) → Around 5760000000000000 (vcsc_of i a)
  unfolding vcsc_of
  vcsc_around a = balanced_around 60000000000000 i.counterparty (own_vcsc_of i) (own_vcsc_around i k) a

  pub own_fee_around : (a : ℕ) → Around 129000000000000 (own_fee_of i a)
  unfolding own_fee_of
  own_fee_around a = product_around 100000 1290000000 i.rate (ieq_of i a +ℤ wfq_of i a) (omega (arith, ints, k.rate)) (omega (arith, ints, summed_ieq_around i k a, wfq_up_to i k a))

  pub fee_around : (a : ℕ) → Around 12384000000000000 (fee_of i a)
  unfolding fee_of
  fee_around a = balanced_around 129000000000000 i.operator (own_fee_of i) own_fee_around a

  pub heua_around : Around 223840000000000000 (heua_of i)
  unfolding heua_of
  heua_around =
      added (sum accounts (gesc_of i)) (sum accounts (lesd_of i)) i.pending (sum_within accounts 1280000000000000 (gesc_of i) (λ a _ _. gesc_around i k a)) (sum_within accounts 10000000000000 (lesd_of i) (λ a _ _. lesd_around i k a)) k.pending
    where
      added : (x y z : ℤ) → Around 122880000000000000 x → Around 960000000000000 y → Around 100000000000000000 z → Around 223840000000000000 (x -ℤ y +ℤ z)
      added x y z f g h = omega (arith, ints)

  pub heur_around : Around 223840000000000000 (heur_of i)
  unfolding heur_of
  heur_around = by (total_load i)
    where
      by : (w : ℕ) → Around 223840000000000000 (cond (eqb w 0) (pos 0) (floor (heua_of i) w))
      by zero = omega (arith, ints)
      by (suc w) =
          let h = heua_around in
          subst (λ t. Around 223840000000000000 (cond t (pos 0) (floor (heua_of i) (suc w)))) (sym (eqb-suc-zero w)) (floor_around 223840000000000000 (suc w) (heua_of i) (omega arith) (omega (arith, ints)) (omega (arith, ints)))

  -- the loads of the first n accounts
  pub loads_up_to : (n : ℕ) → Within (pos 0) (pos (n * 10000000)) (sum n (weq_of i))
  loads_up_to n = sum_up_to n 10000000 (weq_of i) (λ a _ _. weq_up_to i k a)

  pub total_load_is : pos (total_load i) ≡ sum accounts (weq_of i)
  unfolding total_load
  total_load_is = from (sum accounts (weq_of i)) (loads_up_to accounts).0
    where
      from : (z : ℤ) → (pos 0) ≤ℤ z → pos (whole z) ≡ z
      from (pos n) h = refl
      from (negsuc n) h = absurd (omega (arith, ints))

  pub total_load_up_to : total_load i ≤ 960000000
  total_load_up_to = omega (arith, ints, total_load_is, loads_up_to accounts)

  -- the loads of the first n accounts are no more than all
  pub loads_within : (n : ℕ) → n ≤ accounts → Within (pos 0) (pos (total_load i)) (sum n (weq_of i))
  loads_within n h = ((loads_up_to n).0, subst (λ x. (sum n (weq_of i)) ≤ℤ x) (sym total_load_is) (sum_grows n accounts (weq_of i) h (λ a _ _. (weq_up_to i k a).0)))

  -- what the loads of the first n accounts bear
  pub borne_upto_around : (n : ℕ) → n ≤ accounts → Around 223840000000000000 (borne (heua_of i) (total_load i) (sum n (weq_of i)))
  borne_upto_around n h = borne_around 223840000000000000 (total_load i) (heua_of i) (sum n (weq_of i)) heua_around (loads_within n h)

  pub heuc_around : (a : ℕ) → Account a → Around 447680000000000000 (heuc_of i a)
  heuc_around zero h = absurd (omega arith)
  heuc_around (suc a) h = subst (Around 447680000000000000) (sym (share_is i a)) (apart _ _ (borne_upto_around (suc a) h.1) (borne_upto_around a (omega arith)))
    where
      apart : (x y : ℤ) → Around 223840000000000000 x → Around 223840000000000000 y → Around 447680000000000000 (x -ℤ y)
      apart x y f g = omega (arith, ints)

  pub nasc_around : (a : ℕ) → Account a → Around 1000000000000000000 (nasc_of i a)
  unfolding nasc_of
  nasc_around a h = added _ _ _ _ _ _ (gesc_around i k a) (lesd_around i k a) (bsc_around i k a) (vcsc_around a) (fee_around a) (heuc_around a h)
    where
      added : (x y z u v w : ℤ) → Around 1280000000000000 x → Around 10000000000000 y → Around 83200000000000000 z → Around 5760000000000000 u → Around 12384000000000000 v → Around 447680000000000000 w → Around 1000000000000000000 (x -ℤ y +ℤ z +ℤ u -ℤ v -ℤ w)
      added x y z u v w one two three four five six = omega (arith, ints)
