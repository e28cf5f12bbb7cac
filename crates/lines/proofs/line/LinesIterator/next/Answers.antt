use Rattle.std.proofs.Common.{◌≡◌, ◌<◌, ◌∷◌, length, arith, false-eqb, rules}
use Rattle.lines.specs.Lines.{lines_of}
use Rattle.lines.proofs.Cuts.{one_line}
use Rattle.lines.proofs.line.LinesIterator.next.Goals as goal

pub returns-clause-steps : goal.returns-clause-steps
returns-clause-steps c =
    let some : 0 < length c.args.self.now.rest.now = omega (arith, false-eqb _ 0 c.if-is_empty.ensures) in
    let first : lines_of c.args.self.now.rest.now ≡ c.first_line-line.result.now ∷ lines_of c.after_line-self.result.now =
    rw (c.first_line-line.ensures, c.after_line-self.ensures.value) (one_line c.args.self.now.rest.now some) in
    first

pub returns-clause-goes : goal.returns-clause-goes
returns-clause-goes c =
    let some : 0 < length c.args.self.now.rest.now = omega (arith, false-eqb _ 0 c.if-is_empty.ensures) in
    let first : lines_of c.args.self.now.rest.now ≡ c.first_line-line.result.now ∷ lines_of c.after_line-self.result.now =
    rw (c.first_line-line.ensures, c.after_line-self.ensures.value) (one_line c.args.self.now.rest.now some) in
    search (rules, first)
