use Rattle.std.proofs.Common.{◌≡◌, ◌&&◌, nat_eq, true, false, cond, map, set, Some, None, sym, refl, ap, ◌∙◌}
use Rattle.std.proofs.lemmas.List.{append-nil, drop_all, take_all}
use Rattle.std.proofs.lemmas.List.Edits.{map_over_more}
use Rattle.register.specs.Keys.{of_half_hour}
use Rattle.register.specs.Rows.{lookup, vacated}
use Rattle.register.proofs.Rows.{vacated_keys}
use Rattle.register.proofs.register.Register.vacate.Goals as goal
use Rattle.register.proofs.register.Register.vacate.Goals.{in-Some+then-eq, in-Some+else-eq, in_default}

pub loop-slot-preserved : goal.loop-slot-preserved
loop-slot-preserved g c =
    let h = c.args.half_hour in
    let f = vacated g.R.Row.carried h.day h.interval in
    let next = map_over_more f c.args.self.now.rows.now c.loop-slot.slot-items c.loop-slot.slot-index c.slot-item.result c.loop-slot-test.true c.loop-slot.invariant c.slot-item.is in
    let written : c.match-slot.slot-items ≡ set c.loop-slot.slot-items c.loop-slot.slot-index (f c.slot-item.result) = elim c.match-slot.branch [
      | in-Some+then-eq w ↦ (
          let told : true ≡ (nat_eq w.half_hour.result.day h.day && nat_eq w.half_hour.result.interval h.interval) = w.if-eq.ensures in
          let was : of_half_hour h.day h.interval (g.R.Row.carried w.in-Some.row) ≡ true = cc in
          let e : f (Some w.in-Some.row) ≡ None = ap (λ b. cond b None (Some w.in-Some.row)) was in
          cc)
      | in-Some+else-eq w ↦ (
          let told : false ≡ (nat_eq w.half_hour.result.day h.day && nat_eq w.half_hour.result.interval h.interval) = w.if-eq.ensures in
          let was : of_half_hour h.day h.interval (g.R.Row.carried w.in-Some.row) ≡ false = cc in
          let e : f (Some w.in-Some.row) ≡ Some w.in-Some.row = ap (λ b. cond b None (Some w.in-Some.row)) was in
          cc)
      | in_default w ↦ w.slot-items-is ∙ ap (set c.loop-slot.slot-items c.loop-slot.slot-index) (w.in_default.is ∙ sym (ap f (c.slot-item.is ∙ w.in_default.is)))
    ] in
    written ∙ next

pub returns : goal.returns
returns g c =
    let was = c.args.self.now.rows.now in
    let h = c.args.half_hour in
    let f = vacated g.R.Row.carried h.day h.interval in
    let front = take_all c.loop-slot.slot-index was c.loop-slot-test.false in
    let back = drop_all c.loop-slot.slot-index was c.loop-slot-test.false in
    let both = append-nil (map f was) in
    let inv = c.loop-slot.invariant in
    let all : c.loop-slot.slot-items ≡ map f was = cc in
    record {
      rows = all;
      keys = λ q. ap (λ xs. lookup g.R.Row.carried xs q) all ∙ vacated_keys g.R.Row.carried was h.day h.interval q;
      lender = refl {a = c.args.self.now.rows.ghost_name};
    }
