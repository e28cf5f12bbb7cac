-- What the code's records say, as the figures' definitions read them.
use Rattle.std.specs.Prelude.{ℕ, zero, suc, List, None, Option, slice_index_or}
use Rattle.std.specs.Option.{option_map}
use Rattle.formulas.specs.Basis.{Basis, Injection, Withdrawal, Bilateral, Vested}
use Rattle.records.specs.declared.inputs.Inputs.{Inputs}
use Rattle.records.specs.declared.inputs.Tranches.{Tranches}
use Rattle.records.specs.declared.entries.Contract.{Contract}
use Rattle.records.specs.declared.entries.FacilityWithin.{FacilityWithin}
use Rattle.records.specs.declared.entries.LoadWithin.{LoadWithin}
use Rattle.records.specs.declared.entries.Vesting.{Vesting}

-- what stands at number n of a list that is numbered from 1: nothing at 0 and past the end
abbrev pub numbered : {X : Type 0} → List (Option X) → ℕ → Option X
numbered xs zero = None
numbered xs (suc n) = slice_index_or xs n None

-- a facility's reading, or how far it moved
abbrev pub injection_of : {far : ℕ} → FacilityWithin far → Injection
injection_of f = record { account = f.account; mep = f.mep.0; ieq = f.ieq.0 }

-- a load's reading, or how far it moved
abbrev pub withdrawal_of : {below : ℕ} → LoadWithin below → Withdrawal
withdrawal_of l = record { weq = l.weq.0; wfq = l.wfq.0 }

-- a bilateral contract
abbrev pub bilateral_of : Contract → Bilateral
bilateral_of c = record { seller = c.seller; buyer = c.buyer; baq = c.baq.0; bwf = c.bwf; bif = c.bif }

-- a tranche of a vesting contract
abbrev pub vested_of : Vesting → Vested
vested_of v = record { price = v.price.0; quantity = v.quantity.0 }

-- the tranche of that number: 0 (base), 1 or 2
abbrev pub tranche : Tranches → ℕ → Option Vesting
tranche t zero = t.base
tranche t (suc zero) = t.first
tranche t (suc (suc zero)) = t.second
tranche t (suc (suc (suc n))) = None

-- no vesting rows
abbrev pub no_tranches : Tranches
no_tranches = record { base = None; first = None; second = None }

-- the tranches of account a
abbrev pub tranches_of : List Tranches → ℕ → Tranches
tranches_of ts zero = no_tranches
tranches_of ts (suc n) = slice_index_or ts n no_tranches

-- what the figures are worked from, as the inputs hold it
abbrev pub basis_of : Inputs → Basis
basis_of i = record {
  usep = i.terms.usep.0;
  rate = i.terms.rate.0;
  facility = λ n. option_map injection_of (numbered i.facilities n);
  load = λ a. option_map withdrawal_of (numbered i.loads a);
  contract = λ n. option_map bilateral_of (numbered i.contracts n);
  vesting = λ a t. option_map vested_of (tranche (tranches_of i.vestings a) t);
  counterparty = i.terms.counterparty;
  operator = i.terms.operator;
  pending = i.terms.pending.0;
}
