use Rattle.book.specs.Statement.{amount_of}
use Rattle.book.proofs.Statements.{none_met, all_fine}
use Rattle.book.proofs.statement.post_statement.Goals as goal

pub post_each-requires-clause-balances : goal.post_each-requires-clause-balances
post_each-requires-clause-balances g c =
    let held = g.B.Book.held c.args.book.now in
    let amount = amount_of c.args.amounts.now in
    all_fine held amount (none_met held (g.B.Book.room c.args.book.now) amount c.in_ok-check_statement.ensures).0
