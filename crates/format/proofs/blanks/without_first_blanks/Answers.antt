use Rattle.std.proofs.Common.{◌≡◌, rules, tests}
use Rattle.std.proofs.lemmas.Iterator.{YieldsList-from_slice}
use Rattle.std.proofs.lemmas.Iterator.Search.{position_from_yields_List}
use Rattle.format.proofs.Trimmed.{blanks, front_dropped, kept, no_front}
use Rattle.format.proofs.blanks.without_first_blanks.Goals as goal
use Rattle.format.proofs.blanks.without_first_blanks.Goals.{After-position}

-- the place that was found
found : (c : After-position) → c.position.result ≡ blanks c.args.line.now
found c = position_from_yields_List kept _ _ c.position.result c.position.ensures.ran (YieldsList-from_slice c.args.line.now cc) (λ x b q k. search (rules, tests))

pub returns-in-Some : goal.returns-in-Some
returns-in-Some c = front_dropped c.args.line.now _ _ (found (goal.at.returns-in-Some c).After-position) c.in-Some.is

pub returns-in-None : goal.returns-in-None
returns-in-None c = no_front c.args.line.now _ (found (goal.at.returns-in-None c).After-position) c.in-None.is
