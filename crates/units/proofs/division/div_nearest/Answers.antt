use Rattle.std.proofs.Common.{◌≡◌, ◌<◌, ℤ, pos, ◌+ℤ◌, ◌*ℤ◌, ◌≤ℤ◌, ◌<ℤ◌, sym, ◌∙◌, arith, SFits, to_z, of_z, rules}
use mir.Syntax.{w128}
use Rattle.std.proofs.lemmas.Int.{ints, to_z-of_z, to_z_pos}
use Rattle.units.specs.Division.{nearest}
use Rattle.units.proofs.Floor.{floor_and_rest, nearest_up, nearest_down}
use Rattle.units.proofs.division.div_nearest.Goals as goal

stored : (q : ℤ) → SFits w128 q → SFits w128 (q +ℤ pos 1) → to_z w128 (of_z w128 (to_z w128 (of_z w128 q) +ℤ pos 1)) ≡ q +ℤ pos 1
stored q f g = simp to_z-of_z

pub returns-then-left-d : goal.returns-then-left-d
returns-then-left-d c =
    let q = c.in_ok-down.down in
    let r = c.rem_euclid-left.result in
    let d = c.args.d in
    let positive : 0 < d = c.in_ok-down.ensures.0 in
    let below : r <ℤ pos d = omega (arith, ints) in
    let half : pos d ≤ℤ (pos 2 *ℤ r) = omega (arith, ints) in
    let parts : c.args.n ≡ q *ℤ pos d +ℤ r = grind (arith, to_z-of_z, to_z_pos, floor_and_rest c.args.n d positive, c.in_ok-down.ensures.1) in
    let up : nearest c.args.n d ≡ q +ℤ pos 1 = nearest_up c.args.n q r d parts below half in
    let small : SFits w128 q = search rules in
    let next : SFits w128 (q +ℤ pos 1) = search rules in
    (positive, stored q small next ∙ sym up)

pub returns-else-left-d : goal.returns-else-left-d
returns-else-left-d c =
    let q = c.in_ok-down.down in
    let r = c.rem_euclid-left.result in
    let d = c.args.d in
    let positive : 0 < d = c.in_ok-down.ensures.0 in
    let above : pos 0 ≤ℤ r = omega (arith, ints) in
    let half : (pos 2 *ℤ r) <ℤ pos d = omega (arith, ints) in
    let parts : c.args.n ≡ q *ℤ pos d +ℤ r = grind (arith, to_z-of_z, to_z_pos, floor_and_rest c.args.n d positive, c.in_ok-down.ensures.1) in
    let down : nearest c.args.n d ≡ q = nearest_down c.args.n q r d parts above half in
    let small : SFits w128 q = search rules in
    (positive, to_z-of_z w128 q small ∙ sym down)
