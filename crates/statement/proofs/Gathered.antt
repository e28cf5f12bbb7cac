-- What is gathered from the registers is what their rows say.
use Rattle.std.proofs.Common.{◌≡◌, ℕ, List, map, ℤ, Some, None, Option, sym, refl, ap, ◌∙◌}
use mathlib.Core.Path.{fun_ext}
use Rattle.std.specs.Option.{option_map}
use Rattle.formulas.specs.Basis.{Basis, Injection, Withdrawal, Bilateral, Vested}
use Rattle.records.specs.declared.inputs.Terms.{Terms}
use Rattle.register.specs.Keys.{Numbers, numbered_key, tranche_key}
use Rattle.register.specs.Rows.{lookup}
use Rattle.register.proofs.Mapped.{lookup_mapped}
use Rattle.gather.specs.Gathered.{basis_at, contract_key, facility_key, load_key, vesting_key}
use Rattle.rows.specs.Meaning.{contract_named, contract_rows, contract_says, facility_named, facility_rows, facility_says, interval_says, load_named, load_rows, load_says, vesting_named, vesting_rows, vesting_says}
use Rattle.rows.specs.declared.contract.ContractRow.{ContractRow}
use Rattle.rows.specs.declared.facility.FacilityReading.{FacilityReading}
use Rattle.rows.specs.declared.interval.Interval.{Interval}
use Rattle.rows.specs.declared.load.LoadReading.{LoadReading}
use Rattle.rows.specs.declared.vesting.VestingRow.{VestingRow}
use Rattle.house.specs.State.{HouseState}
use Rattle.statement.specs.Gathered.{basis_in, bilateral_in, injection_in, vested_in as vested-said, withdrawal_in}

-- a row read by what it says
mapped_twice : {R S T : Type 0} (f : S → T) (g : R → S) (o : Option R) → option_map f (option_map g o) ≡ option_map (λ r. f (g r)) o
mapped_twice f g None = refl
mapped_twice f g (Some r) = refl

pub read_as : {R S T : Type 0} (carried : R → Numbers) (named : S → Numbers) (says : R → S) (same : (r : R) → named (says r) ≡ carried r) (f : S → T) (rows : List (Option R)) (k : Numbers)
    → option_map (λ r. f (says r)) (lookup carried rows k) ≡ option_map f (lookup named (map (option_map says) rows) k)
read_as carried named says same f rows k = sym (mapped_twice f says (lookup carried rows k)) ∙ ap (option_map f) (sym (lookup_mapped carried named says same rows k))

same_basis : (u u' r r' p p' : ℤ) (k k' o o' : ℕ) (f g : ℕ → Option Injection) (l m : ℕ → Option Withdrawal) (b c : ℕ → Option Bilateral) (v w : ℕ → ℕ → Option Vested)
    → u ≡ u' → r ≡ r' → p ≡ p' → k ≡ k' → o ≡ o' → f ≡ g → l ≡ m → b ≡ c → v ≡ w
    → ◌≡◌ {A = Basis}
    (record { usep = u; rate = r; facility = f; load = l; contract = b; vesting = v; counterparty = k; operator = o; pending = p })
    (record { usep = u'; rate = r'; facility = g; load = m; contract = c; vesting = w; counterparty = k'; operator = o'; pending = p' })
same_basis u u' r r' p p' k k' o o' f g l m b c v w e1 e2 e3 e4 e5 e6 e7 e8 e9 = cc

pub basis_said : (terms : Terms) (h : HouseState) (i : Interval) (fs : List (Option FacilityReading)) (ls : List (Option LoadReading)) (cs : List (Option ContractRow)) (vs : List (Option VestingRow))
    → terms.usep.0 ≡ i.usep.0 → terms.rate.0 ≡ i.rate.0 → terms.pending.0 ≡ h.pending → terms.counterparty ≡ h.counterparty → terms.operator ≡ h.operator
    → basis_at terms i.half_hour.day i.half_hour.interval fs ls cs vs ≡ basis_in h (interval_says i) (facility_rows fs) (load_rows ls) (contract_rows cs) (vesting_rows vs)
unfolding basis_at basis_in
basis_said terms h i fs ls cs vs u r p k o =
    same_basis _ _ _ _ _ _ _ _ _ _ _ _ _ _ _ _ _ _ u r p k o
    (fun_ext (λ n. read_as facility_key facility_named facility_says (λ x. refl) injection_in fs (numbered_key i.half_hour.day i.half_hour.interval n)))
    (fun_ext (λ n. read_as load_key load_named load_says (λ x. refl) withdrawal_in ls (numbered_key i.half_hour.day i.half_hour.interval n)))
    (fun_ext (λ n. read_as contract_key contract_named contract_says (λ x. refl) bilateral_in cs (numbered_key i.half_hour.day i.half_hour.interval n)))
    (fun_ext (λ a. fun_ext (λ n. read_as vesting_key vesting_named vesting_says (λ x. refl) vested-said vs (tranche_key i.half_hour.day i.half_hour.interval a n))))
