-- Quotients of a signed number by a positive divisor, in the three roundings that the rules use.
use Rattle.std.specs.Prelude.{ℕ, suc, ◌*◌, ◌/◌, ℤ, pos, negsuc, ◌+ℤ◌, ◌*ℤ◌, neg_ℤ}

-- the quotient rounded towards minus infinity
abbrev pub floor : ℤ → ℕ → ℤ
floor (pos n) d = pos (n / d)
floor (negsuc n) d = negsuc (n / d)

-- the quotient rounded to the nearest whole, halves upwards
abbrev pub nearest : ℤ → ℕ → ℤ
nearest n d = floor (pos 2 *ℤ n +ℤ pos d) (2 * d)

-- the quotient rounded towards zero
abbrev pub towards_zero : ℤ → ℕ → ℤ
towards_zero (pos n) d = pos (n / d)
towards_zero (negsuc n) d = neg_ℤ (pos (suc n / d))

-- an amount of millicents in whole cents, cut towards zero; a cent is 1,000 millicents
unfoldable pub whole_cents : ℤ → ℤ
whole_cents z = towards_zero z 1000
