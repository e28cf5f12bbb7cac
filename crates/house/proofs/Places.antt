-- A row sought by its key, and written where its key's row is or would be put.
use Rattle.std.proofs.Common.{◌≡◌, ℕ, not, ◌&&◌, List, [], ◌∷◌, map, set, is_some, Some, None, Option, sym, refl, ap, ◌∙◌, lit<}
use Rattle.std.specs.Option.{option_map}
use Rattle.units.specs.Checks.{Check, first_met}
use Rattle.units.specs.Refusals.{refusal_number}
use Rattle.units.specs.declared.refusal.Refusal.{Refusal}
use Rattle.register.specs.Keys.{Numbers}
use Rattle.register.specs.Rows.{lookup, place}
use Rattle.register.proofs.Mapped.{lookup_mapped, place_mapped, written_mapped}
use Rattle.rows.specs.declared.correction.Correction.{Correction}
use Rattle.house.specs.Open.{check, put_row}
use Rattle.house.specs.Readings.{Kind, corrects, left, may_correct, row_checks}
use Rattle.house.proofs.Answering.{passes, stops}

module _ {R S : Type 0} (carried : R → Numbers) (named : S → Numbers) (says : R → S) (same : (r : R) → named (says r) ≡ carried r) (rows : List (Option R)) where
  pub sought_row : (k q : Numbers) (o : Option R) → o ≡ lookup carried rows k → k ≡ q → option_map says o ≡ lookup named (map (option_map says) rows) q
  sought_row k q o e h = ap (option_map says) (e ∙ ap (lookup carried rows) h) ∙ sym (lookup_mapped carried named says same rows q)

  pub sought_place : (k q : Numbers) (o : Option ℕ) → o ≡ place carried rows k → k ≡ q → o ≡ place named (map (option_map says) rows) q
  sought_place k q o e h = e ∙ ap (place carried rows) h ∙ sym (place_mapped carried named says same rows q)

  pub written : (k : Numbers) (i : ℕ) (r : R) (left : Option S) → place named (map (option_map says) rows) k ≡ Some i → left ≡ Some (says r) → named (says r) ≡ k
      → map (option_map says) (set rows i (Some r)) ≡ put_row named (map (option_map says) rows) left
  written k i r left p e n =
      written_mapped carried named says same rows i r (sym (place_mapped carried named says same rows (carried r)) ∙ ap (place named (map (option_map says) rows)) (sym (same r) ∙ n) ∙ p)
      ∙ ap (put_row named (map (option_map says) rows)) (sym e)

-- the row that a reading leaves has the reading's key
pub left_key : {S : Type 0} (kind : Kind S) (keeps : (c : Correction) (new old : S) → kind.key (kind.corrected c new old) ≡ kind.key old) (new f : S) (s : Option Correction) (old : Option S) → ((o : S) → old ≡ Some o → kind.key o ≡ kind.key new) → left kind new (Some s) old ≡ Some f → kind.key f ≡ kind.key new
left_key kind keeps new f None old h e = let z : new ≡ f = cc in ap kind.key (sym z)
left_key kind keeps new f (Some c) None h e = cc
left_key kind keeps new f (Some c) (Some o) h e = let z : kind.corrected c new o ≡ f = cc in ap kind.key (sym z) ∙ keeps c new o ∙ h o refl

-- the checks on a reading's row, by what was sought
module _ {S : Type 0} (kind : Kind S) (new : S) (sort : Option Correction) (rows : List (Option S)) (old : Option S) (found : old ≡ lookup kind.key rows (kind.key new)) where
  abbrev nine : Option S → Check
  nine o = check 9 (corrects (Some sort) && not (may_correct kind new o))

  abbrev ten : Option ℕ → Check
  ten p = check 10 (not (is_some p))

  pub refused_row : (e : Refusal) → refusal_number e ≡ first_met (check 9 (corrects (Some sort) && not (may_correct kind new old)) ∷ []) → refusal_number e ≡ first_met (row_checks kind new (Some sort) rows)
  refused_row e h = stops e (nine old ∷ []) (ten (place kind.key rows (kind.key new)) ∷ []) h ∙ ap (λ o. first_met (nine o ∷ ten (place kind.key rows (kind.key new)) ∷ [])) found

  pub past_row : (p : Option ℕ) → p ≡ place kind.key rows (kind.key new) → 0 ≡ first_met (check 9 (corrects (Some sort) && not (may_correct kind new old)) ∷ []) → first_met (check 10 (not (is_some p)) ∷ []) ≡ first_met (row_checks kind new (Some sort) rows)
  past_row p e h = passes (nine old ∷ []) (ten p ∷ []) (lit< tt, tt) h ∙ ap (λ o. first_met (nine o ∷ ten p ∷ [])) found ∙ ap (λ q. first_met (nine (lookup kind.key rows (kind.key new)) ∷ ten q ∷ [])) e
