use Rattle.std.proofs.Common.{◌≡◌, length, drop}
use Rattle.format.specs.Fields.{fields_of, numbers_in}
use Rattle.format.proofs.Fields.{after}
use Rattle.format.proofs.line.call_of.Given as goal

abbrev pub invariant-loop-field : goal.invariant-loop-field
invariant-loop-field l =
    (goal.iterator-loop-field).can_next l.field-iterator
    × (goal.iterator-loop-field).is_finite l.field-iterator
    × (after l.numbers.items (numbers_in (drop (length l.yielded) (drop 1 (fields_of l.text)))) ≡ numbers_in (drop 1 (fields_of l.text)))
