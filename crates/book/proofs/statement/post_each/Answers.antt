use Rattle.std.proofs.Common.{◌+◌, sym, ◌∙◌, subst, arith, rules}
use Rattle.std.proofs.lemmas.Int.{ints}
use Rattle.units.specs.Ranges.{Account, accounts}
use Rattle.book.specs.Statement.{InTurn, Turn, amount_of}
use Rattle.book.proofs.Statements.{amount_at, part_room, part_of, no_turn, next_turn, settled}
use Rattle.book.proofs.statement.post_each.Goals as goal

pub loop-index-init : goal.loop-index-init
loop-index-init g c = (no_turn g.B.Book.held g.B.Book.room g.B.Book.takes (amount_of c.args.amounts.now) c.args.book.now, λ i h. h)

pub post_turn-requires : goal.post_turn-requires
post_turn-requires g c =
    let b = g.B.Book in
    let i = c.loop-index.index in
    let old = c.args.book.now in
    let mid = c.loop-index.book in
    let amount = amount_of c.args.amounts.now in
    let part = part_of b.held b.room b.takes amount old i mid (omega arith) c.loop-index.invariant.0 in
    let here : Account (i + 1) = (omega arith, omega arith) in (record {
      account = here;
      balance = omega (arith, ints, part.left (i + 1) here (omega arith), c.requires.balances (i + 1) here, amount_at c.args.amounts.now i);
      places = λ n. part_room i (b.held old) (b.room old) amount (b.held mid) (b.room mid) part (omega arith) c.requires.places (λ e. n (sym (amount_at c.args.amounts.now i) ∙ e));
    })

pub loop-index-preserved : goal.loop-index-preserved
loop-index-preserved g c =
    let b = g.B.Book in
    let i = c.loop-index.index in
    let mid = c.loop-index.book in
    let new = c.post_turn.new.book in
    let turn = subst (λ z. Turn b.held b.room b.takes (i + 1) z mid new) (sym (amount_at c.args.amounts.now i)) c.post_turn.ensures.turn in (
      next_turn b.held b.room b.takes (amount_of c.args.amounts.now) c.args.book.now i mid new c.loop-index.invariant.0 turn,
      λ k h. c.post_turn.ensures.conditions k (c.loop-index.invariant.1 k h),
    )

pub returns-clause-meaning : goal.returns-clause-meaning
returns-clause-meaning g c =
    let b = g.B.Book in
    let amount = amount_of c.args.amounts.now in
    let turns : InTurn b.held b.room b.takes amount accounts c.args.book.now c.loop-index.book = search rules in
    settled b.held b.room b.takes amount c.args.book.now c.loop-index.book turns
