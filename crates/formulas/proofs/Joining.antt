-- Two corrections of one half hour adjust an account by as much as both as one.
use Rattle.std.proofs.Common.{◌≡◌, ℕ, Bool, true, false, cond, eqb, ℤ, pos, ◌+ℤ◌, ◌-ℤ◌, ◌*ℤ◌, Some, None, Option, sym, refl, ap, ◌∙◌, arith}
use Rattle.std.proofs.lemmas.Int.{ints}
use Rattle.formulas.specs.Adjustment.{Moves, nmea_of, rate_of}
use Rattle.formulas.specs.Basis.{Injection, Withdrawal, facilities, of_account, of_load, over}
use Rattle.formulas.specs.Laws.{Alike, Joined, joined_injection, joined_withdrawal}
use Rattle.formulas.proofs.Ring.{times_add}
use Rattle.formulas.proofs.Sums.{sum_add, sum_same}

-- f of two moves of one facility as one is f of each together
abbrev Additive : (Injection → ℤ) → Type 0
Additive f = (r s : Injection) → r.mep ≡ s.mep → f (record { account = r.account; mep = r.mep; ieq = r.ieq +ℤ s.ieq }) ≡ f r +ℤ f s

injections_add : (a : ℕ) (f : Injection → ℤ) → Additive f → (o p : Option Injection) → Alike o p → of_account a f (joined_injection o p) ≡ of_account a f o +ℤ of_account a f p
injections_add a f h None p k = omega (arith, ints)
injections_add a f h (Some r) None k = omega (arith, ints)
injections_add a f h (Some r) (Some s) k =
    parts (eqb r.account a) ∙ ap (λ t. cond (eqb r.account a) (f r) (pos 0) +ℤ cond (eqb t a) (f s) (pos 0)) k.0
  where
    parts : (t : Bool) → cond t (f (record { account = r.account; mep = r.mep; ieq = r.ieq +ℤ s.ieq })) (pos 0) ≡ cond t (f r) (pos 0) +ℤ cond t (f s) (pos 0)
    parts true = h r s k.1
    parts false = refl

loads_add : (f : Withdrawal → ℤ) → ((l k : Withdrawal) → f (record { weq = l.weq +ℤ k.weq; wfq = l.wfq +ℤ k.wfq }) ≡ f l +ℤ f k) → (o p : Option Withdrawal) → of_load f (joined_withdrawal o p) ≡ of_load f o +ℤ of_load f p
loads_add f h None p = omega (arith, ints)
loads_add f h (Some l) None = omega (arith, ints)
loads_add f h (Some l) (Some k) = h l k

over_adds : (m n both : Moves) → Joined m n both → (a : ℕ) (f : Injection → ℤ) → Additive f → over both.facility a f ≡ over m.facility a f +ℤ over n.facility a f
unfolding over
over_adds m n both j a f h =
    sum_same facilities _ _ (λ k _ _. ap (of_account a f) (j.facility k) ∙ injections_add a f h (m.facility k) (n.facility k) (j.alike k))
    ∙ sum_add facilities (λ k. of_account a f (m.facility k)) (λ k. of_account a f (n.facility k))

-- what is linear in four amounts adds up
linear : (r p x y z w s t u v : ℤ) → x -ℤ r *ℤ y -ℤ p *ℤ z -ℤ r *ℤ w +ℤ (s -ℤ r *ℤ t -ℤ p *ℤ u -ℤ r *ℤ v) ≡ x +ℤ s -ℤ r *ℤ (y +ℤ t) -ℤ p *ℤ (z +ℤ u) -ℤ r *ℤ (w +ℤ v)
linear r p x y z w s t u v =
    rw (times_add r y t, times_add p z u, times_add r w v) (regroup x (r *ℤ y) (p *ℤ z) (r *ℤ w) s (r *ℤ t) (p *ℤ u) (r *ℤ v))
  where
    regroup : (x y z w s t u v : ℤ) → x -ℤ y -ℤ z -ℤ w +ℤ (s -ℤ t -ℤ u -ℤ v) ≡ x +ℤ s -ℤ (y +ℤ t) -ℤ (z +ℤ u) -ℤ (w +ℤ v)
    regroup x y z w s t u v = omega (arith, ints)

-- an adjustment at given prices and rates
abbrev adjusted : Moves → ℕ → ℤ → ℤ → ℤ
adjusted m a r p =
    over m.facility a (λ r. r.mep *ℤ r.ieq) -ℤ r *ℤ over m.facility a (λ r. r.ieq)
    -ℤ p *ℤ of_load (λ l. l.weq) (m.load a) -ℤ r *ℤ of_load (λ l. l.wfq) (m.load a)

same_terms : (m both : Moves) (a : ℕ) → m.usep ≡ both.usep → m.rate ≡ both.rate → m.uplift ≡ both.uplift → m.operator ≡ both.operator → nmea_of m a ≡ adjusted m a (rate_of both a) (both.usep +ℤ both.uplift)
unfolding nmea_of
same_terms m both a u r l o =
    let rates : rate_of m a ≡ rate_of both a = ap (λ x. cond (eqb a m.operator) (pos 0) x) r ∙ ap (λ x. cond (eqb a x) (pos 0) both.rate) o in
    let prices : m.usep +ℤ m.uplift ≡ both.usep +ℤ both.uplift = ap (λ x. x +ℤ m.uplift) u ∙ ap (λ x. both.usep +ℤ x) l in
    ap (λ x. adjusted m a x (m.usep +ℤ m.uplift)) rates ∙ ap (λ x. adjusted m a (rate_of both a) x) prices

pub joined : (m n both : Moves) → Joined m n both → (a : ℕ) → nmea_of m a +ℤ nmea_of n a ≡ nmea_of both a
unfolding nmea_of
joined m n both j a =
    let rate : ℤ = rate_of both a in
    let price : ℤ = both.usep +ℤ both.uplift in
    let earned = over_adds m n both j a (λ r. r.mep *ℤ r.ieq) (λ r s e. times_add r.mep r.ieq s.ieq ∙ ap (λ x. r.mep *ℤ r.ieq +ℤ x *ℤ s.ieq) e) in
    let made = over_adds m n both j a (λ r. r.ieq) (λ r s e. refl) in
    let drawn = ap (of_load (λ l. l.weq)) (j.load a) ∙ loads_add (λ l. l.weq) (λ l k. refl) (m.load a) (n.load a) in
    let charged = ap (of_load (λ l. l.wfq)) (j.load a) ∙ loads_add (λ l. l.wfq) (λ l k. refl) (m.load a) (n.load a) in
    ap (λ x. x +ℤ nmea_of n a) (same_terms m both a j.usep.0 j.rate.0 j.uplift.0 j.operator.0)
    ∙ ap (λ x. adjusted m a rate price +ℤ x) (same_terms n both a j.usep.1 j.rate.1 j.uplift.1 j.operator.1)
    ∙ linear rate price _ _ _ _ _ _ _ _
    ∙ sym (rw (earned, made, drawn, charged) refl)
