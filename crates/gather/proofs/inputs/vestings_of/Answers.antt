use Rattle.std.proofs.Common.{◌≡◌, refl, ap, ◌∙◌, arith, rules}
use Rattle.units.specs.Ranges.{accounts}
use Rattle.records.specs.Meaning.{no_tranches, vested_of}
use Rattle.gather.specs.Gathered.{three_at, vested_in}
use Rattle.gather.proofs.Passes.{view_means}
use Rattle.gather.proofs.Tranches.{by_tranche, each_made}
use Rattle.gather.proofs.inputs.vestings_of.Goals as goal

pub returns : goal.returns
returns c =
    let flat = c.gather-flat.result in
    by_tranche c.args.rows.now flat c.from_fn.result c.args.half_hour.day c.args.half_hour.interval c.from_fn.ensures.items.long
    (λ i l. view_means _ vested_of vested_in (λ r v w. search rules) _ _ (c.gather-flat.ensures i l))
    (λ k l. each_made _ (λ f. f.0.now ≡ flat) (λ i y. y ≡ three_at flat i) (λ f i y q h s. (let given : y ≡ three_at f.0.now i = search rules in given ∙ ap (λ xs. three_at xs i) h, ap (λ r. r.now) s.met.1 ∙ h)) _ c.from_fn.result 0 accounts refl c.from_fn.ensures.items.each k no_tranches (omega arith) l)
