use Rattle.std.proofs.Common.{◌≡◌, ℕ, zero, suc, ◌-◌, ◌<◌, List, [], ◌∷◌, length, get_or, pos, ap, ◌∙◌, arith, rules}
use Rattle.units.specs.Ranges.{Account, accounts}
use Rattle.units.specs.declared.quantity.Money.{Money}
use Rattle.book.specs.Statement.{amount_of}
use Rattle.figures.specs.Settled.{LinesAre}
use Rattle.figures.specs.declared.line.Line.{Line}
use Rattle.formulas.specs.Basis.{Basis}
use Rattle.formulas.specs.Figures.{nasc_of}
use Rattle.statement.proofs.finalising.credits.Goals as goal

first_of : (lines : List Line) → length lines ≡ accounts → Line
first_of [] e = absurd (omega (arith, e))
first_of (x ∷ xs) e = x

credited : (b : Basis) (lines : List Line) (ms : List Money) → length lines ≡ accounts → LinesAre b lines → ((k : ℕ) (d : Line) (e : Money) → k < accounts → get_or ms k e ≡ (get_or lines k d).nasc)
    → (a : ℕ) → Account a → amount_of ms a ≡ nasc_of b a
credited b lines ms long h f zero ok = absurd (omega arith)
credited b lines ms long h f (suc k) ok =
    let d = first_of lines long in
    let lt : k < accounts = omega arith in
    let e : suc k - 1 ≡ k = omega arith in
    ap (λ j. (get_or ms j (record { 0 = pos 0 })).0) e ∙ ap (λ (m : Money). m.0) (f k d (record { 0 = pos 0 }) lt) ∙ (h k lt d).nasc

pub returns : goal.returns
returns c = λ b h a ok.
    credited b c.args.lines.now c.map.result c.told-lines h
    (λ k d e lt. let called = c.map.ensures.items.at k d e lt in search rules) a ok
