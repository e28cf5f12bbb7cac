use Rattle.std.proofs.Common.{drop, length, sym, ap, ◌∙◌}
use Rattle.std.proofs.lemmas.List.{drop_at, length-take-le}
use Rattle.units.specs.Ranges.{accounts}
use Rattle.statement.proofs.preliminary.write_lines.Goals as goal

pub copy_from_slice-requires : goal.copy_from_slice-requires
copy_from_slice-requires c = length-take-le accounts c.args.lines.now c.requires ∙ sym c.told-written

pub returns-clause-beyond : goal.returns-clause-beyond
returns-clause-beyond c = drop_at c.copy_from_slice.new.self (drop accounts c.args.lines.now) accounts (ap length c.copy_from_slice.ensures.after ∙ c.told-written)
