use Rattle.std.proofs.Common.{◌≡◌}
use Rattle.book.specs.Statement.{count, beyond, is_posted, amount_of}
use Rattle.book.proofs.statement.check_statement.Given as goal

abbrev pub invariant-loop-index : goal.invariant-loop-index
invariant-loop-index g l =
    let amount = amount_of l.amounts in
    (count l.index (beyond (g.B.Book.held l.book) amount) ≡ 0)
    × (l.needed ≡ count l.index (is_posted amount))
