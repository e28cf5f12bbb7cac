-- What the figures are worked out from on the way: the totals of one account's facilities.
use Rattle.std.specs.Prelude.{◌≡◌, ℕ, suc, ◌<◌, ◌≤◌, cond, List, ℤ, pos, ◌+ℤ◌, ◌*ℤ◌, ◌≤ℤ◌, Option, ◌==◌, slice_index_or}
use Rattle.units.specs.Division.{nearest}
use Rattle.units.specs.Ranges.{Around, accounts}
use Rattle.formulas.specs.Basis.{Injection, facilities, of_account}
use Rattle.formulas.specs.Figures.{at_least_0, whole}
use Rattle.formulas.specs.Sums.{sum}
use Rattle.figures.specs.declared.injected.Injected.{Injected}

-- f summed over those of the facilities 1 to n that are account a's
abbrev pub upto : (ℕ → Option Injection) → ℕ → ℕ → (Injection → ℤ) → ℤ
upto facility n a f = sum n (λ m. of_account a f (facility m))

-- nothing yet
abbrev pub nothing_injected : Injected
nothing_injected = record { count = 0; ieq = record { 0 = pos 0 }; injected = record { 0 = pos 0 }; prices = record { 0 = pos 0 }; gesc = record { 0 = pos 0 }; weighted = record { 0 = pos 0 } }

-- the totals y are x and, where it is account a's, one facility more
pub record Grown (a : ℕ) (o : Option Injection) (x y : Injected) : Type 0 where
  pub count : pos y.count ≡ pos x.count +ℤ of_account a (λ r. pos 1) o
  pub ieq : y.ieq.0 ≡ x.ieq.0 +ℤ of_account a (λ r. r.ieq) o
  pub injected : y.injected.0 ≡ x.injected.0 +ℤ of_account a (λ r. at_least_0 r.ieq) o
  pub prices : y.prices.0 ≡ x.prices.0 +ℤ of_account a (λ r. r.mep) o
  pub gesc : y.gesc.0 ≡ x.gesc.0 +ℤ of_account a (λ r. r.mep *ℤ r.ieq) o
  pub weighted : y.weighted.0 ≡ x.weighted.0 +ℤ of_account a (λ r. r.mep *ℤ at_least_0 r.ieq) o

-- the totals x are those of account a's facilities among 1 to n
pub record Totalled (facility : ℕ → Option Injection) (n a : ℕ) (x : Injected) : Type 0 where
  pub count : pos x.count ≡ upto facility n a (λ r. pos 1)
  pub ieq : x.ieq.0 ≡ upto facility n a (λ r. r.ieq)
  pub injected : x.injected.0 ≡ upto facility n a (λ r. at_least_0 r.ieq)
  pub prices : x.prices.0 ≡ upto facility n a (λ r. r.mep)
  pub gesc : x.gesc.0 ≡ upto facility n a (λ r. r.mep *ℤ r.ieq)
  pub weighted : x.weighted.0 ≡ upto facility n a (λ r. r.mep *ℤ at_least_0 r.ieq)

-- the totals xs, by account, are those of all facilities
abbrev pub AllTotalled : (ℕ → Option Injection) → List Injected → Type 0
AllTotalled facility xs = (k : ℕ) → k < accounts → Totalled facility facilities (suc k) (slice_index_or xs k nothing_injected)

-- the totals leave room for one facility more
pub record Roomy (x : Injected) : Type 0 where
  pub count : x.count ≤ 1000
  pub ieq : Around 1000000000000 x.ieq.0
  pub injected : Around 1000000000000 x.injected.0
  pub prices : Around 1000000000000 x.prices.0
  pub gesc : Around 1000000000000000000 x.gesc.0
  pub weighted : Around 1000000000000000000 x.weighted.0

-- the reference price that the totals give
abbrev pub price_from : Injected → ℤ
price_from x = cond (whole x.injected.0 == 0) (nearest x.prices.0 x.count) (nearest x.weighted.0 (whole x.injected.0))

-- the totals give a reference price: what was injected is not negative, and without a facility there are no prices
pub record Priced (x : Injected) : Type 0 where
  pub injected : pos 0 ≤ℤ x.injected.0
  pub nothing : x.count ≡ 0 → x.prices.0 ≡ pos 0
  pub price : Around 1000000 (price_from x)
