use Rattle.std.proofs.Common.{◌≡◌, Some, None, sym, ◌∙◌, rules}
use Rattle.std.proofs.lemmas.List.{get_or_default}
use Rattle.register.specs.Rows.{place}
use Rattle.register.proofs.Rows.{lookup_at_place, lookup_no_place}
use Rattle.register.proofs.register.seek.Goals as goal

pub returns-in_err-index-clause-row : goal.returns-in_err-index-clause-row
returns-in_err-index-clause-row g c =
    let rows = c.args.rows.now in
    let key = g.R.Row.numbers c.args.key in
    let at : place g.R.Row.carried rows key ≡ None = search rules in
    let none : c.from_residual.result ≡ None = search rules in
    let nothing = lookup_no_place g.R.Row.carried rows key at in
    cc

pub returns-clause-row : goal.returns-clause-row
returns-clause-row g c =
    let rows = c.args.rows.now in
    let key = g.R.Row.numbers c.args.key in
    let at : place g.R.Row.carried rows key ≡ Some c.in_ok-index.index = sym (c.in_ok-index.ensures.value) in
    c.index-rows-index.is ∙ get_or_default rows c.in_ok-index.index _ None c.in_ok-index.ensures.within ∙ sym (lookup_at_place g.R.Row.carried rows key c.in_ok-index.index at)
