-- A test of a number that was handed on, as a test of the number itself.
use Rattle.std.proofs.Common.{◌≡◌, Bool, ℤ, sym, ap, ◌∙◌, w64, SFits, to_z, of_z}
use Rattle.std.proofs.lemmas.Int.{to_z-of_z}
use Rattle.units.specs.Ranges.{inside}
use Rattle.units.specs.declared.range.Range.{Range}

pub told : (r : Range) (z : ℤ) (b : Bool) → SFits w64 z → b ≡ inside r (to_z w64 (of_z w64 z)) → inside r z ≡ b
told r z b fits e = sym (e ∙ ap (inside r) (to_z-of_z w64 z fits))
