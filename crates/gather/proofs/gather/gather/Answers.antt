use Rattle.std.proofs.Common.{◌≡◌, ◌<◌, ◌&&◌, eqb, false, List, length, get_or, take, ◌+◌, ℕ, Some, None, Option, refl, sym, ap, ◌∙◌, subst}
use Rattle.std.proofs.lemmas.Bool.{and_parts, eqb-true}
use Rattle.std.proofs.lemmas.List.{length-replicate, take_all}
use Rattle.std.specs.Fn.{FnReturnsAt}
use Rattle.register.specs.Keys.{of_half_hour}
use Rattle.register.specs.Rows.{is_at, lookup}
use Rattle.gather.specs.Viewed.{ViewOf}
use Rattle.gather.proofs.Passes.{elsewhere, kept_more, kept_same, nothing_at, read_as}
use Rattle.gather.proofs.gather.gather.Goals as goal
use Rattle.gather.proofs.gather.gather.Goals.{in-Some+then-eq, in-Some+else-eq, in_default}

pub loop-slot-preserved : goal.loop-slot-preserved
loop-slot-preserved g c =
    let h = c.args.half_hour in
    let m = c.loop-slot.slot-index in
    let xs = c.args.rows.now in
    record {
      filled =
          elim c.match-slot.branch [
            | in-Some+then-eq w ↦ ap length w.held-is ∙ w.keep.auto.held ∙ c.loop-slot.invariant.filled
            | in-Some+else-eq w ↦ ap length w.held-is ∙ c.loop-slot.invariant.filled
            | in_default w ↦ ap length w.held-is ∙ c.loop-slot.invariant.filled
          ];
      seen = λ i l.
          let k = g.R.Placed.keyed h.day h.interval i in
          let view = FnReturnsAt g.F.Fn c.args.view in
          let was = c.loop-slot.invariant.seen i l in
          elim c.match-slot.branch [
            | in-Some+then-eq w ↦ (
                let r = w.in-Some.row in
                let same = and_parts (eqb w.half_hour.result.day h.day) (eqb w.half_hour.result.interval h.interval) (sym w.if-eq.ensures) in
                let d : (g.R.Row.carried r).day ≡ h.day = sym w.half_hour.ensures.0 ∙ eqb-true _ _ same.0 in
                let t : (g.R.Row.carried r).interval ≡ h.interval = sym w.half_hour.ensures.1 ∙ eqb-true _ _ same.1 in
                let at : g.R.Row.carried r ≡ g.R.Placed.keyed h.day h.interval w.place.result =
                w.place.ensures ∙ ap (λ x. g.R.Placed.keyed x (g.R.Row.carried r).interval w.place.result) d ∙ ap (λ x. g.R.Placed.keyed h.day x w.place.result) t in
                let item = read_as xs m c.slot-item.result (Some r) w.in-Some.is c.slot-item.is in
                let fits : i < length c.loop-slot.held = subst (λ (n : ℕ). i < n) (sym c.loop-slot.invariant.filled) l in
                let new = ap (λ ys. get_or ys i None) w.held-is ∙ w.keep.ensures i fits in
                let given : view r w.view.result = record { shown = _; shows = refl; says = record { met = w.view.ensures } } in
                kept_more g.R.Row.carried view (g.R.Placed.keyed h.day h.interval) (g.met.R.Placed.apart h.day h.interval)
                xs m r w.view.result w.place.result i (get_or c.loop-slot.held i None) (get_or c.match-slot.held i None) c.loop-slot-test.true item at given was new)
            | in-Some+else-eq w ↦ (
                let told : false ≡ (eqb w.half_hour.result.day h.day && eqb w.half_hour.result.interval h.interval) = w.if-eq.ensures in
                let other : of_half_hour h.day h.interval (g.R.Row.carried w.in-Some.row) ≡ false = cc in
                let dated = g.met.R.Placed.dated h.day h.interval i in
                let away = elsewhere g.R.Row.carried w.in-Some.row k h.day h.interval dated.0 dated.1 other in
                let not : is_at g.R.Row.carried k c.slot-item.result ≡ false = ap (is_at g.R.Row.carried k) w.in-Some.is ∙ away in
                let P : List (Option g.row.T.Denot) → Type 0 = λ ys. ViewOf view (lookup g.R.Row.carried (take (m + 1) xs) k) (get_or ys i None) in
                subst P (sym w.held-is) (kept_same g.R.Row.carried view xs m c.slot-item.result k _ c.loop-slot-test.true c.slot-item.is not was))
            | in_default w ↦ (
                let not : is_at g.R.Row.carried k c.slot-item.result ≡ false = ap (is_at g.R.Row.carried k) w.in_default.is in
                let P : List (Option g.row.T.Denot) → Type 0 = λ ys. ViewOf view (lookup g.R.Row.carried (take (m + 1) xs) k) (get_or ys i None) in
                subst P (sym w.held-is) (kept_same g.R.Row.carried view xs m c.slot-item.result k _ c.loop-slot-test.true c.slot-item.is not was))
          ];
    }

pub loop-slot-init : goal.loop-slot-init
unfolding lookup
loop-slot-init g c = record { filled = length-replicate g.row.N None; seen = λ i l. nothing_at g.row.N i }

pub returns : goal.returns
returns g c = λ i l.
    let h = c.args.half_hour in
    let P : List (Option g.row.R.Denot) → Type 0 = λ xs. ViewOf (FnReturnsAt g.F.Fn c.args.view) (lookup g.R.Row.carried xs (g.R.Placed.keyed h.day h.interval i)) (get_or c.loop-slot.held i None) in
    subst P (take_all c.loop-slot.slot-index c.args.rows.now c.loop-slot-test.false) (c.loop-slot.invariant.seen i l)
