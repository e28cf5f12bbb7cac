-- The figures of an account in one half hour, in millicents, under the market's own abbreviations.
use Rattle.std.specs.Prelude.{ℕ, Bool, false, cond, not, ◌&&◌, ◌||◌, List, [], ◌∷◌, ℤ, pos, negsuc, ◌+ℤ◌, ◌-ℤ◌, ◌*ℤ◌, neg_ℤ, is_some, Some, None, Option, ◌==◌}
use Rattle.units.specs.Checks.{Check}
use Rattle.units.specs.Division.{floor, nearest}
use Rattle.units.specs.Ranges.{accounts, inside, uplift_range}
use Rattle.formulas.specs.Basis.{Basis, Bilateral, Vested, contracts, over, of_load}
use Rattle.formulas.specs.Sums.{sum, some_of}

-- z, or 0 where z is negative
abbrev pub at_least_0 : ℤ → ℤ
at_least_0 (pos n) = pos n
at_least_0 (negsuc n) = pos 0

-- a whole number that is not negative, for a divisor; 0 where it is negative
abbrev pub whole : ℤ → ℕ
whole (pos n) = n
whole (negsuc n) = 0

-- whether z is 0
abbrev pub is_0 : ℤ → Bool
is_0 (pos n) = n == 0
is_0 (negsuc n) = false

-- the account's withdrawn energy
unfoldable pub weq_of : Basis → ℕ → ℤ
weq_of i a = of_load (λ l. l.weq) (i.load a)

-- the energy on which the account's load pays fees
unfoldable pub wfq_of : Basis → ℕ → ℤ
wfq_of i a = of_load (λ l. l.wfq) (i.load a)

-- the account's injected energy, summed over its facilities
unfoldable pub ieq_of : Basis → ℕ → ℤ
ieq_of i a = over i.facility a (λ r. r.ieq)

-- what the account earns for its injected energy, each facility at its own price
unfoldable pub gesc_of : Basis → ℕ → ℤ
gesc_of i a = over i.facility a (λ r. r.mep *ℤ r.ieq)

-- what the account pays for its withdrawn energy, at the pool price
unfoldable pub lesd_of : Basis → ℕ → ℤ
lesd_of i a = i.usep *ℤ weq_of i a

-- that many hundredths of a percent of a quantity, rounded down
abbrev pub part : ℕ → ℤ → ℤ
part hundredths q = floor (pos hundredths *ℤ q) 10000

-- the energy that a bilateral contract moves
unfoldable pub beq_of : Basis → Bilateral → ℤ
beq_of i c = c.baq +ℤ part c.bwf (weq_of i c.buyer) +ℤ part c.bif (at_least_0 (ieq_of i c.seller))

-- what account a has from one contract: the buyer gains, and the seller loses, the contract's energy at the pool price
abbrev pub from_contract : Basis → ℕ → Option Bilateral → ℤ
from_contract i a None = pos 0
from_contract i a (Some c) = cond (c.buyer == a) (i.usep *ℤ beq_of i c) (pos 0) -ℤ cond (c.seller == a) (i.usep *ℤ beq_of i c) (pos 0)

-- what the account has from all bilateral contracts
unfoldable pub bsc_of : Basis → ℕ → ℤ
bsc_of i a = sum contracts (λ n. from_contract i a (i.contract n))

-- the reference price of an account's vesting contracts: the average price of what its facilities injected, or the plain
-- average of their prices where they injected nothing
unfoldable pub vcrp_of : Basis → ℕ → ℤ
vcrp_of i a =
    let injected : ℕ = whole (over i.facility a (λ r. at_least_0 r.ieq)) in
    cond (injected == 0)
    (nearest (over i.facility a (λ r. r.mep)) (whole (over i.facility a (λ r. pos 1))))
    (nearest (over i.facility a (λ r. r.mep *ℤ at_least_0 r.ieq)) injected)

-- what one tranche pays at that reference price
abbrev pub from_vesting : ℤ → Option Vested → ℤ
from_vesting p None = pos 0
from_vesting p (Some v) = (v.price -ℤ p) *ℤ v.quantity

-- what the account's own tranches pay
unfoldable pub own_vcsc_of : Basis → ℕ → ℤ
own_vcsc_of i a =
    let p : ℤ = vcrp_of i a in
    from_vesting p (i.vesting a 0) +ℤ from_vesting p (i.vesting a 1) +ℤ from_vesting p (i.vesting a 2)

-- f of an account, but for account x, which takes the other side, minus the sum of the others'
unfoldable pub balanced : ℕ → (ℕ → ℤ) → ℕ → ℤ
balanced x f a = cond (a == x) (neg_ℤ (sum accounts (λ b. cond (b == x) (pos 0) (f b)))) (f a)

-- what the account has from vesting contracts; the counterparty takes the other side of all
unfoldable pub vcsc_of : Basis → ℕ → ℤ
vcsc_of i a = balanced i.counterparty (own_vcsc_of i) a

-- the fee on the account's own energy
unfoldable pub own_fee_of : Basis → ℕ → ℤ
own_fee_of i a = i.rate *ℤ (ieq_of i a +ℤ wfq_of i a)

-- the fee that the account pays; the operator is paid all fees
unfoldable pub fee_of : Basis → ℕ → ℤ
fee_of i a = balanced i.operator (own_fee_of i) a

-- the hourly energy uplift: what was earned more than paid, with what is pending
unfoldable pub heua_of : Basis → ℤ
heua_of i = sum accounts (gesc_of i) -ℤ sum accounts (lesd_of i) +ℤ i.pending

-- all withdrawn energy
unfoldable pub total_load : Basis → ℕ
total_load i = whole (sum accounts (weq_of i))

-- the uplift rate, rounded down; 0 where there is no load
unfoldable pub heur_of : Basis → ℤ
heur_of i = cond (total_load i == 0) (pos 0) (floor (heua_of i) (total_load i))

-- the part of an amount that a load c of all loads w bears, rounded down; 0 where there is no load
abbrev pub borne : ℤ → ℕ → ℤ → ℤ
borne h w c = cond (w == 0) (pos 0) (floor (h *ℤ c) w)

-- the account's share of the uplift: what the loads of all accounts up to this one bear, less what those before it bear
unfoldable pub heuc_of : Basis → ℕ → ℤ
heuc_of i a =
    let upto : ℤ = sum a (weq_of i) in
    borne (heua_of i) (total_load i) upto -ℤ borne (heua_of i) (total_load i) (upto -ℤ weq_of i a)

-- the net of all: what the account is credited
unfoldable pub nasc_of : Basis → ℕ → ℤ
nasc_of i a = gesc_of i a -ℤ lesd_of i a +ℤ bsc_of i a +ℤ vcsc_of i a -ℤ fee_of i a -ℤ heuc_of i a

-- whether the account has a vesting row, and no facility
abbrev pub unfounded : Basis → ℕ → Bool
unfounded i a = (is_some (i.vesting a 0) || is_some (i.vesting a 1) || is_some (i.vesting a 2)) && is_0 (over i.facility a (λ r. pos 1))

-- what keeps a half hour from being settled, in the order of the numbers
abbrev pub settling_checks : Basis → List Check
settling_checks i =
    record { number = 12; met = some_of accounts (unfounded i) }
    ∷ record { number = 13; met = total_load i == 0 && not (is_0 (heua_of i)) }
    ∷ record { number = 14; met = not (inside uplift_range (heur_of i)) }
    ∷ []
