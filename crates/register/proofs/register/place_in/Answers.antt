use Rattle.std.proofs.Common.{◌≡◌, ◌<◌, length, IfSome, Some, None, Option, ℕ, sym, subst}
use Rattle.std.specs.Option.{option_or}
use Rattle.register.proofs.Pass.{place_end, place_here, place_past, place_start, place_vacant}
use Rattle.register.proofs.register.place_in.Goals as goal
use Rattle.register.proofs.register.place_in.Goals.{then-is_none, else-is_none}

within : (n : ℕ) (o p : Option ℕ) → o ≡ p → IfSome p (λ j. j < n) → IfSome o (λ j. j < n)
within n o p e h = let P : Option ℕ → Type 0 = λ q. IfSome q (λ j. j < n) in subst P (sym e) h

or_within : (n i : ℕ) (o : Option ℕ) → i < n → IfSome o (λ j. j < n) → IfSome (option_or o (Some i)) (λ j. j < n)
or_within n i None l h = l
or_within n i (Some j) l h = h

pub loop-i-init : goal.loop-i-init
loop-i-init g c = (place_start g.R.Row.carried (g.R.Row.numbers c.args.key) c.args.rows.now, tt)

pub returns-then-is_at-clause-value : goal.returns-then-is_at-clause-value
returns-then-is_at-clause-value g c =
    let here = place_here g.R.Row.carried (g.R.Row.numbers c.args.key) c.args.rows.now c.loop-i.i c.loop-i.vacant c.index-rows-i.result c.loop-i-test.true c.index-rows-i.is c.if-is_at.ensures in
    let inv = c.loop-i.invariant.0 in
    cc

pub loop-i-preserved : goal.loop-i-preserved
loop-i-preserved g c =
    let k = g.R.Row.numbers c.args.key in
    let n = length c.args.rows.now in
    let inv = c.loop-i.invariant.0 in
    elim c.if-is_none.branch [
      | then-is_none w ↦ (
          let past = place_vacant g.R.Row.carried k c.args.rows.now c.loop-i.i c.loop-i.vacant c.index-rows-i.result c.loop-i-test.true c.index-rows-i.is w.if-is_none.ensures in
          let v = w.vacant-is in
          let or = w.or-vacant.ensures in
          let now : c.if-is_none.vacant ≡ option_or c.loop-i.vacant (Some c.loop-i.i) = cc in
          (cc, within n c.if-is_none.vacant (option_or c.loop-i.vacant (Some c.loop-i.i)) now (or_within n c.loop-i.i c.loop-i.vacant c.loop-i-test.true c.loop-i.invariant.1)))
      | else-is_none w ↦ (
          let past = place_past g.R.Row.carried k c.args.rows.now c.loop-i.i c.loop-i.vacant c.index-rows-i.result c.loop-i-test.true c.index-rows-i.is c.if-is_at.ensures w.if-is_none.ensures in
          let v = w.vacant-is in
          (cc, within n c.if-is_none.vacant c.loop-i.vacant v c.loop-i.invariant.1))
    ]

pub returns-clause-value : goal.returns-clause-value
returns-clause-value g c =
    let end = place_end g.R.Row.carried (g.R.Row.numbers c.args.key) c.args.rows.now c.loop-i.i c.loop-i.vacant c.loop-i-test.false in
    let inv = c.loop-i.invariant.0 in
    cc
