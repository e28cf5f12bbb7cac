use Rattle.std.proofs.Common.{◌≡◌, ◌+◌, ◌+ℤ◌, sym, ap, ◌∙◌, arith, of_z, rules}
use mir.Syntax.{w128}
use Rattle.std.proofs.lemmas.Result.{err_from_is_err_and}
use Rattle.std.proofs.lemmas.Int.{ints}
use Rattle.units.specs.Ranges.{Around}
use Rattle.units.specs.Refusals.{refusal_number}
use Rattle.book.specs.Meaning.{balance_limit}
use Rattle.book.specs.Statement.{amount_of, is_posted}
use Rattle.book.proofs.Counts.{count_none, count_at_most}
use Rattle.book.proofs.Statements.{amount_at, none_beyond, one_beyond, counted, passed_over, refuses_beyond}
use Rattle.book.proofs.statement.check_statement.Goals as goal
use Rattle.book.proofs.statement.check_statement.Goals.{then-amount-ne0, else-amount-ne0}

pub loop-index-init : goal.loop-index-init
loop-index-init g c = search (rules, count_none)

pub returns-in_err-raised : goal.returns-in_err-raised
returns-in_err-raised g c =
    let i = c.loop-index.index in
    let held = g.B.Book.held c.args.book.now in
    let amount = amount_of c.args.amounts.now in
    let shown : c.in_ok-balance.balance.0 ≡ held (i + 1) = c.in_ok-balance.ensures.value in
    let over : Around balance_limit (held (i + 1) +ℤ amount (i + 1)) → ⊥ = λ w. c.in_err-raised.ensures.1 (omega (arith, ints, shown, amount_at c.args.amounts.now i)) in
    let p = err_from_is_err_and c.from_residual-in_err-raised.result c.from_residual-in_err-raised.ensures.1 in
    rw (p.1, p.2) (ap refusal_number c.in_err-raised.ensures.0 ∙ sym (refuses_beyond held (g.B.Book.room c.args.book.now) amount (one_beyond held amount i (omega arith) over)))

pub overflow_add-needed : goal.overflow_add-needed
overflow_add-needed g c = omega (arith, c.loop-index.invariant.1, count_at_most c.loop-index.index (is_posted (amount_of c.args.amounts.now)))

pub loop-index-preserved : goal.loop-index-preserved
loop-index-preserved g c =
    let i = c.loop-index.index in
    let held = g.B.Book.held c.args.book.now in
    let amount = amount_of c.args.amounts.now in
    let shown : c.in_ok-balance.balance.0 ≡ held (i + 1) = c.in_ok-balance.ensures.value in
    let fine : Around balance_limit (held (i + 1) +ℤ amount (i + 1)) = omega (arith, ints, shown, amount_at c.args.amounts.now i, c.in_ok-raised.ensures.0, c.in_ok-raised.ensures.1) in (
      none_beyond held amount i c.loop-index.invariant.0 fine,
      elim c.if-amount-ne0.branch [
        | then-amount-ne0 w ↦ omega (arith, w.needed-is, c.loop-index.invariant.1, counted amount i (λ e. w.if-amount-ne0.true (ap (of_z w128) (sym (amount_at c.args.amounts.now i) ∙ e))))
        | else-amount-ne0 w ↦ omega (arith, w.needed-is, c.loop-index.invariant.1, passed_over amount i (omega (arith, ints, amount_at c.args.amounts.now i, w.if-amount-ne0.false)))
      ],
    )
