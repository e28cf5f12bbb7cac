use Rattle.std.proofs.Common.{◌≡◌, ◌-◌, ◌+◌, ◌*◌, ◌<◌, min, true, false, length, get_or, sym, ◌∙◌, arith, false-eqb}
use Rattle.lines.specs.Numerals.{far, is_digit}
use Rattle.lines.proofs.Digits.{all_read, no_digit, one_digit}
use Rattle.lines.proofs.text.magnitude.Goals as goal

pub returns-then-not-is_ascii_digit : goal.returns-then-not-is_ascii_digit
returns-then-not-is_ascii_digit c =
    let other : is_digit (get_or c.args.digits.now c.loop-b.b-index 0) ≡ false = sym c.if-not-is_ascii_digit.ensures.value in
    sym (no_digit c.args.digits.now _ _ c.loop-b-test.true other c.loop-b.invariant.1)

pub loop-b-preserved : goal.loop-b-preserved
loop-b-preserved c =
    let one : is_digit (get_or c.args.digits.now c.loop-b.b-index 0) ≡ true = sym c.if-not-is_ascii_digit.ensures.value in
    let same : min far c.min-upto.result ≡ min far (c.loop-b.upto * 10 + (get_or c.args.digits.now c.loop-b.b-index 0 - 48)) = omega (arith, c.min-upto.ensures, c.from.ensures) in
    (omega (arith, c.min-upto.ensures), one_digit c.args.digits.now _ _ _ c.loop-b-test.true one same ∙ c.loop-b.invariant.1)

pub returns : goal.returns
returns c =
    let some : 0 < length c.args.digits.now = omega (arith, false-eqb _ 0 c.if-is_empty.ensures) in
    all_read c.args.digits.now _ _ c.loop-b-test.false some c.loop-b.invariant.0 c.loop-b.invariant.1
