use Rattle.std.proofs.Common.{◌≡◌, sym, ap, ◌∙◌, arith}
use Rattle.std.proofs.lemmas.Int.{ints}
use Rattle.units.specs.Ranges.{Account}
use Rattle.book.specs.Cents.{whole_cents}
use Rattle.book.specs.Meaning.{balance_limit}
use Rattle.book.specs.Statement.{amount_of}
use Rattle.book.proofs.Cents.{cents_around, in_cents_kept, own_first_kept}
use Rattle.book.proofs.Posting.{shown_account}
use Rattle.book.proofs.cent_layer.CentLayerBook.post.Goals as goal

pub hold_cents-requires : goal.hold_cents-requires
hold_cents-requires g c =
    let known : Account c.args.account = shown_account (amount_of c.args.self.now.exact.cells) c.args.account c.in_ok-balance.balance c.in_ok-balance.ensures in
    let around = cents_around balance_limit c.in_ok-after.after.0 c.in_ok-after.ensures.1 in
    (known, (omega (arith, ints, c.cut_to_cents.ensures, around), omega (arith, c.places.ensures, c.if-places-eq0.false)))

pub returns-clause-taken : goal.returns-clause-taken
returns-clause-taken g c =
    let cells = c.put.new.self.cells in
    let below = c.in_ok-hold_cents.ensures.meaning in
    let cents : c.cut_to_cents.result.0 ≡ whole_cents (amount_of cells c.args.account) = c.cut_to_cents.ensures ∙ ap whole_cents (sym c.put.ensures.here) in
    record { payable = omega (arith, ints, below.balance, cents); others = below.others; idle = λ e. c.in_ok-hold_cents.ensures.idle (e ∙ sym cents) }

pub returns-clause-conditions : goal.returns-clause-conditions
returns-clause-conditions g c =
    let b = g.B.Book in
    let a = c.args.account in
    let old = c.args.self.now in
    let cells = c.put.new.self.cells in
    let new = c.hold_cents.new.book in
    let below = c.in_ok-hold_cents.ensures.meaning in
    let cents : c.cut_to_cents.result.0 ≡ whole_cents (amount_of cells a) = c.cut_to_cents.ensures ∙ ap whole_cents (sym c.put.ensures.here) in
    let payable : b.held new a ≡ whole_cents (amount_of cells a) = omega (arith, ints, below.balance, cents) in
    own_first_kept _ _ _ _ (in_cents_kept (b.held old.below) (b.held new) (amount_of old.exact.cells) (amount_of cells) a payable below.others c.put.ensures.elsewhere) c.in_ok-hold_cents.ensures.conditions
