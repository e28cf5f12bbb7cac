use Rattle.std.proofs.Common.{◌≡◌, ℕ, ◌-◌, ◌≤◌, length, get_or, take, drop, pos, ◌-ℤ◌, neg_ℤ, Some, sym, ap, ◌∙◌, arith, w64, to_z, of_z}
use Rattle.std.proofs.lemmas.Int.{ints}
use Rattle.std.specs.Option.{option_map}
use Rattle.lines.specs.Numerals.{far}
use Rattle.lines.proofs.Digits.{after_minus, whole_small}
use Rattle.lines.proofs.text.number.Goals as goal

-- a number within the farthest, negated in 64 bits
negated : (n : ℕ) → n ≤ far → to_z w64 (of_z w64 (pos 0 -ℤ to_z w64 n)) ≡ neg_ℤ (pos n)
negated n h = omega (arith, ints)

pub returns-in_err-size-in-45 : goal.returns-in_err-size-in-45
returns-in_err-size-in-45 c =
    let first : get_or c.args.text.now 0 0 ≡ 45 = omega arith in
    c.from_residual.ensures ∙ ap (option_map (λ n. neg_ℤ (pos n))) c.in_err-size-in-45.ensures ∙ sym (after_minus c.args.text.now first)

pub returns-in_ok-size-in-45 : goal.returns-in_ok-size-in-45
returns-in_ok-size-in-45 c =
    let first : get_or c.args.text.now 0 0 ≡ 45 = omega arith in
    let small : c.in_ok-size-in-45.size ≤ far = whole_small (take (length c.args.text.now - 1) (drop 1 c.args.text.now)) _ c.in_ok-size-in-45.ensures in
    ap Some (negated c.in_ok-size-in-45.size small) ∙ ap (option_map (λ n. neg_ℤ (pos n))) c.in_ok-size-in-45.ensures ∙ sym (after_minus c.args.text.now first)
