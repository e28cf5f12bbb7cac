-- The first and the second correction of one interval, as one.
use Rattle.std.proofs.Common.{◌≡◌, ℕ, List, ℤ, ◌+ℤ◌, ◌-ℤ◌, Some, None, Option, refl, ap, arith}
use Rattle.std.specs.Option.{option_map}
use Rattle.std.proofs.lemmas.Int.{ints}
use Rattle.formulas.specs.Laws.{Alike, joined_injection, joined_withdrawal}
use Rattle.formulas.proofs.Joining.{joined}
use Rattle.register.specs.Keys.{numbered_key}
use Rattle.register.specs.Rows.{lookup}
use Rattle.rows.specs.Meaning.{IntervalSaid, FacilitySaid, LoadSaid, facility_named, load_named}
use Rattle.rows.specs.Values.{base_value, first_value, second_value}
use Rattle.rows.specs.declared.metered.Metered.{Metered}
use Rattle.settlement.specs.Moves.{TwoAreOne, injection_moved_in, moves_in, withdrawal_moved_in}

-- from one value to a later one, by way of a third
by_way : (x y z : ℤ) → z -ℤ x ≡ (y -ℤ x) +ℤ (z -ℤ y)
by_way x y z = omega (arith, ints)

alike : (p q r : Metered → ℤ) (o : Option FacilitySaid) → Alike (option_map (injection_moved_in p q) o) (option_map (injection_moved_in q r) o)
alike p q r None = tt
alike p q r (Some f) = (refl, refl)

facilities_join : (p q r : Metered → ℤ) (o : Option FacilitySaid) → option_map (injection_moved_in p r) o ≡ joined_injection (option_map (injection_moved_in p q) o) (option_map (injection_moved_in q r) o)
facilities_join p q r None = refl
facilities_join p q r (Some f) = ap (λ z. Some (record { account = f.account; mep = f.mep; ieq = z })) (by_way (p f.ieq) (q f.ieq) (r f.ieq))

loads_join : (p q r : Metered → ℤ) (o : Option LoadSaid) → option_map (withdrawal_moved_in p r) o ≡ joined_withdrawal (option_map (withdrawal_moved_in p q) o) (option_map (withdrawal_moved_in q r) o)
loads_join p q r None = refl
loads_join p q r (Some l) = let w = by_way (p l.weq) (q l.weq) (r l.weq) in let f = by_way (p l.wfq) (q l.wfq) (r l.wfq) in cc

pub two_are_one : (operator : ℕ) (i : IntervalSaid) (fs : List (Option FacilitySaid)) (ls : List (Option LoadSaid)) → TwoAreOne operator i fs ls
unfolding moves_in
two_are_one operator i fs ls = joined (moves_in base_value first_value operator i fs ls) (moves_in first_value second_value operator i fs ls) (moves_in base_value second_value operator i fs ls) record {
  usep = (refl, refl);
  rate = (refl, refl);
  uplift = (refl, refl);
  operator = (refl, refl);
  alike = λ k. alike base_value first_value second_value (lookup facility_named fs (numbered_key i.key.day i.key.interval k));
  facility = λ k. facilities_join base_value first_value second_value (lookup facility_named fs (numbered_key i.key.day i.key.interval k));
  load = λ a. loads_join base_value first_value second_value (lookup load_named ls (numbered_key i.key.day i.key.interval a));
}
