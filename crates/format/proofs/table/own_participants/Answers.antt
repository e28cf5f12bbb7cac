use Rattle.std.proofs.Common.{◌≡◌, ℕ, ◌+◌, ◌<◌, get_or, pos, ◌+ℤ◌, ◌∙◌, arith, w64, to_z, of_z, rules}
use Rattle.std.proofs.lemmas.List.FromFn.{fill_by_all}
use Rattle.std.proofs.lemmas.Int.{ints}
use Rattle.format.proofs.table.own_participants.Goals as goal

-- one more than an account's place
own : (k : ℕ) → k < 96 → to_z w64 (of_z w64 (to_z w64 k +ℤ pos 1)) ≡ pos (k + 1)
own k h = omega (arith, ints)

pub returns : goal.returns
returns c =
    fill_by_all (λ k. pos (k + 1)) c.from_fn.result 96 (pos 0) c.from_fn.ensures.items.long
    (λ j h.
    let called = c.from_fn.ensures.items.at j (pos 0) h in
    let made : get_or c.from_fn.result j (pos 0) ≡ to_z w64 (of_z w64 (to_z w64 j +ℤ pos 1)) = search rules in
    made ∙ own j h)
