use Rattle.figures.proofs.Gathered.{added}
use Rattle.figures.proofs.injected.add_facility.Goals as goal

pub returns-in-Some : goal.returns-in-Some
returns-in-Some g c k h = rw c.in-Some.is (added c.args.all.now c.in-Some.f c.with.result c.told-all c.with.ensures k h)
