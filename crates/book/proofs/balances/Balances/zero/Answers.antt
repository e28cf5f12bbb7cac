use Rattle.std.proofs.Common.{pos, sym, subst, arith}
use Rattle.std.proofs.lemmas.Int.{ints}
use Rattle.units.specs.Ranges.{Around, accounts}
use Rattle.book.specs.Meaning.{balance_limit}
use Rattle.book.proofs.Cells.{no_money}
use Rattle.book.proofs.balances.Balances.zero.Goals as goal

pub invariant_of-result : goal.invariant_of-result
invariant_of-result c =
    let none : Around balance_limit (pos 0) = omega (arith, ints) in
    record { bounded = (λ k. subst (λ z. Around balance_limit z) (sym (no_money accounts k)) none) }

pub returns : goal.returns
returns c = λ k. no_money accounts k
