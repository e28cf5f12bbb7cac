use Rattle.std.proofs.Common.{◌≡◌, ◌<◌, ◌+ℤ◌, sym, refl, arith}
use Rattle.std.proofs.lemmas.Int.{ints}
use Rattle.units.specs.Ranges.{Account, Around}
use Rattle.book.specs.Lines.{balance_around, balance_in, free_lines}
use Rattle.book.specs.Meaning.{balance_limit}
use Rattle.book.proofs.Posting.{accepts, shown_account}
use Rattle.book.proofs.Used.{used_filled, tidy_filled, fill_raises, fill_line}
use Rattle.book.proofs.passbook.PassbookBook.post.Goals as goal

pub invariant_of-self : goal.invariant_of-self
invariant_of-self c =
    let ls = c.args.self.now.lines.now in
    let a = c.args.account in
    let shown : c.in_ok-balance.balance.0 ≡ balance_in ls a = c.in_ok-balance.ensures.value in
    let known : Account a = shown_account (balance_in ls) a c.in_ok-balance.balance c.in_ok-balance.ensures in
    let old = balance_around ls a in
    let sum = c.in_ok-after.ensures in
    record { account_ok = known; amount_ok = omega (arith, ints, shown, old, sum.0, sum.1); after_ok = sum.1 }

pub invariant_of-self-2 : goal.invariant_of-self-2
invariant_of-self-2 c =
    let s = c.args.self.now in
    record { counted = used_filled s.lines.now s.used _ s.counted s.tidy (omega arith); tidy = tidy_filled s.lines.now s.used _ s.counted s.tidy (omega arith) }

pub returns : goal.returns
returns c =
    let s = c.args.self.now in
    let ls = s.lines.now in
    let a = c.args.account in
    let shown : c.in_ok-balance.balance.0 ≡ balance_in ls a = c.in_ok-balance.ensures.value in
    let known : Account a = shown_account (balance_in ls) a c.in_ok-balance.balance c.in_ok-balance.ensures in
    let sum : c.in_ok-after.after.0 ≡ balance_in ls a +ℤ c.args.amount.0 = omega (arith, ints, shown, c.in_ok-after.ensures.0) in
    let fine : Around balance_limit (balance_in ls a +ℤ c.args.amount.0) = omega (arith, ints, sum, c.in_ok-after.ensures.1) in
    let free : 0 < free_lines ls = omega (arith, s.counted, c.if-self.false) in
    let taken = fill_line ls s.used _ s.counted s.tidy c.if-self.false c.args.amount.0 refl sum in
    record {
      meaning = record {
        answer = sym (accepts (balance_in ls) (free_lines ls) a c.args.amount.0 known fine free);
        after = fill_raises ls s.used _ s.counted s.tidy c.if-self.false c.args.amount.0 sum;
      };
      conditions = λ i h. h;
      taken = taken;
    }
