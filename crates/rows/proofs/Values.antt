-- The range of a metered quantity's values, kept by a correction.
use Rattle.std.proofs.Common.{◌≡◌, ℤ, Some, None, Option, unwrap_or, sym, subst}
use Rattle.units.specs.Ranges.{Within}
use Rattle.rows.specs.Values.{EachWithin, corrected, first_value}
use Rattle.rows.specs.declared.correction.Correction.{Correction}
use Rattle.rows.specs.declared.correction.Correction.TheVariants.{First, Second}
use Rattle.rows.specs.declared.metered.Metered.{Metered}

-- after a correction
pub corrected_within : (low high : ℤ) (k : Correction) (m n : Metered) (z : ℤ) → n ≡ corrected k m z → EachWithin low high m → Within low high z → EachWithin low high n
corrected_within low high k m n z e h w = let P : Metered → Type 0 = EachWithin low high in subst P (sym e) (go k)
  where
    second : (s : Option ℤ) → Within low high (unwrap_or s (first_value m)) → Within low high (unwrap_or s z)
    second None t = w
    second (Some t) u = u

    go : (k : Correction) → EachWithin low high (corrected k m z)
    go First = (h.0, w, second m.second h.2)
    go Second = (h.0, h.1, w)
