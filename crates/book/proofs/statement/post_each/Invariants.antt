use Rattle.std.proofs.Common.{ℕ}
use Rattle.book.specs.Statement.{amount_of, InTurn}
use Rattle.book.proofs.statement.post_each.Given as goal

abbrev pub invariant-loop-index : goal.invariant-loop-index
invariant-loop-index g l =
    let b = g.B.Book in
    InTurn b.held b.room b.takes (amount_of l.amounts) l.index l.initial.book l.book
    × ((i : ℕ) → b.holds i l.initial.book → b.holds i l.book)
