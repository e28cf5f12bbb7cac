use Rattle.std.proofs.Common.{rules, tests, ◌≡◌, is_some, None, eqb, ap, sym, ◌∙◌}
use Rattle.std.proofs.lemmas.Iterator.{YieldsList-from_slice}
use Rattle.std.proofs.lemmas.Iterator.Consumers.{YieldsList-at, YieldsList-from_filter, YieldsList-from_filter_map}
use Rattle.std.proofs.lemmas.Iterator.Search.{YieldsList-from_take_while}
use Rattle.std.proofs.lemmas.Grind.{common_steps}
use Rattle.std.specs.List.{last_or}
use Rattle.book.proofs.Used.{after_of, said, last_said, items_given}
use Rattle.book.proofs.lines.last_balance.Goals as goal

pub returns : goal.returns
returns c =
    let ran = c.last.ensures.ran in
    let a = c.args.account in
    let same : ran.0 ≡ said c.args.lines.now a = items_given ran.0 ran.1 (
    YieldsList-from_filter _ (λ e. eqb e.account a) (YieldsList-at c.filter.ensures.source (
    YieldsList-from_filter_map _ (λ o. o) (YieldsList-at c.filter_map.ensures.source (
    YieldsList-from_take_while _ is_some (YieldsList-at c.take_while.ensures.source (YieldsList-from_slice c.args.lines.now cc)) c.take_while.ensures.closure c.take_while.ensures.done (λ x b q k. search (rules, tests))
    )) c.filter_map.ensures.closure (λ x r q k. search (rules, tests))
    )) c.filter.ensures.closure (λ x b q k. search (rules, tests))
    ) in
    let shown : c.map_or.result.0 ≡ after_of c.last.result = search (rules, tests, common_steps) in
    shown ∙ ap after_of (ran.2 ∙ ap (last_or None) same) ∙ sym (last_said None c.args.lines.now a)
