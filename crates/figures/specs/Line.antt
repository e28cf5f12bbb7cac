-- A statement's line with no figures, and a line as it is written.
use Rattle.std.specs.Prelude.{◌≡◌, ℕ, List, [], ◌∷◌, pos}
use Rattle.std.specs.List.{join_with_byte}
use Rattle.std.specs.Fmt.{decimal, signed_decimal}
use Rattle.figures.specs.declared.line.Line.{Line}

-- every figure of the line is zero
abbrev pub NoFigures : Line → Type 0
NoFigures l = (l.gesc.0 ≡ pos 0) × (l.lesd.0 ≡ pos 0) × (l.bsc.0 ≡ pos 0) × (l.vcsc.0 ≡ pos 0) × (l.fee.0 ≡ pos 0) × (l.heuc.0 ≡ pos 0) × (l.nasc.0 ≡ pos 0)

-- the account and its figures, with commas between them
abbrev pub line_text : Line → List ℕ
line_text l =
    join_with_byte 44 (
    decimal l.account
    ∷ signed_decimal l.gesc.0
    ∷ signed_decimal l.lesd.0
    ∷ signed_decimal l.bsc.0
    ∷ signed_decimal l.vcsc.0
    ∷ signed_decimal l.fee.0
    ∷ signed_decimal l.heuc.0
    ∷ signed_decimal l.nasc.0
    ∷ []
    )
