use Rattle.std.proofs.Common.{◌≡◌, ap, ◌∙◌, rules, tests}
use Rattle.std.specs.List.{find}
use Rattle.std.specs.Option.{option_flatten, option_map}
use Rattle.std.proofs.lemmas.Iterator.{YieldsList-from_slice}
use Rattle.std.proofs.lemmas.Iterator.Search.{find_from_yields_List}
use Rattle.register.specs.Rows.{is_at}
use Rattle.register.proofs.Rows.{lookup_found}
use Rattle.register.proofs.register.Register.find.Goals as goal

pub returns : goal.returns
returns g c =
    let k = g.R.Row.numbers c.args.key in
    let rows = c.args.self.now.rows.now in
    let found : option_map (λ s. s.now) c.find.result ≡ find (is_at g.R.Row.carried k) rows = find_from_yields_List (is_at g.R.Row.carried k) _ _ c.find.result c.find.ensures.ran (YieldsList-from_slice rows c.iter.ensures.rest) (λ x b q k. search (rules, tests)) in
    c.flatten.ensures ∙ ap option_flatten (c.copied.ensures ∙ found) ∙ lookup_found g.R.Row.carried rows k
