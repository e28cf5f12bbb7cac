use Rattle.std.proofs.Common.{◌≡◌, is_some, Some, None, sym, refl, ap, ◌∙◌}
use Rattle.register.specs.Rows.{lookup, place, put_at}
use Rattle.register.proofs.Rows.{put_keys}
use Rattle.register.proofs.register.Register.put.Goals as goal

pub returns-in_default : goal.returns-in_default
returns-in_default g c =
    let rows = c.args.self.now.rows.now in
    let p : None ≡ place g.R.Row.carried rows (g.R.Row.carried c.args.row) = c.in_default.ensures.value ∙ ap (place g.R.Row.carried rows) c.key.ensures in
    record {
      rows = ap (λ o. put_at o rows (Some c.args.row)) p;
      accepts = ap is_some p;
      keys = (refl, refl);
      lender = refl {a = c.args.self.now.rows.ghost_name};
    }

pub returns : goal.returns
returns g c =
    let rows = c.args.self.now.rows.now in
    let p : Some c.in-Some.index ≡ place g.R.Row.carried rows (g.R.Row.carried c.args.row) = c.in-Some.ensures.value ∙ ap (place g.R.Row.carried rows) c.key.ensures in
    record {
      rows = ap (λ o. put_at o rows (Some c.args.row)) p;
      accepts = ap is_some p;
      keys = λ q. ap (λ o. lookup g.R.Row.carried (put_at o rows (Some c.args.row)) q) p ∙ put_keys g.R.Row.carried rows c.args.row q (ap is_some (sym p));
      lender = refl {a = c.args.self.now.rows.ghost_name};
    }
