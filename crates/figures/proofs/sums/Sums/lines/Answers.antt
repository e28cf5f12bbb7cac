use Rattle.std.proofs.Common.{◌<◌, length, sym, refl, ap, ◌∙◌, arith, length-set, SFits, rules}
use mir.Syntax.{w128}
use Rattle.std.proofs.lemmas.Int.{to_z-of_z}
use Rattle.formulas.specs.Figures.{heua_of, weq_of, borne, total_load}
use Rattle.figures.specs.Meaning.{basis_of}
use Rattle.formulas.proofs.Shares.{borne_none}
use Rattle.formulas.proofs.Sums.{sum_none}
use Rattle.figures.proofs.Written.{drawn_at, lines_more, load_more, share_more}
use Rattle.figures.proofs.sums.Sums.lines.Goals as goal

pub loop-k-init : goal.loop-k-init
loop-k-init c =
    let i = basis_of c.args.self.now.injections.inputs.now in
    (refl, sym (sum_none _), sym (ap (borne (heua_of i) (total_load i)) (sum_none (weq_of i)) ∙ borne_none (heua_of i) (total_load i)), λ k h d. absurd (omega arith))

pub overflow_add-upto : goal.overflow_add-upto
overflow_add-upto c =
    (load_more c.args.self.now.injections.inputs.now c.loop-k.k _ _ c.loop-k-test.true c.loop-k.invariant.1 (drawn_at c.args.self.now.injections.inputs.now c.loop-k.k _ _ (search rules) c.withdrawn-upto.ensures.value)).0

pub borne_upto-bears-requires : goal.borne_upto-bears-requires
borne_upto-bears-requires c =
    let more = load_more c.args.self.now.injections.inputs.now c.loop-k.k _ _ c.loop-k-test.true c.loop-k.invariant.1 (drawn_at c.args.self.now.injections.inputs.now c.loop-k.k _ _ (search rules) c.withdrawn-upto.ensures.value) in
    rw more.1 more.2

pub overflow_sub-bears : goal.overflow_sub-bears
overflow_sub-bears c =
    let more = load_more c.args.self.now.injections.inputs.now c.loop-k.k _ _ c.loop-k-test.true c.loop-k.invariant.1 (drawn_at c.args.self.now.injections.inputs.now c.loop-k.k _ _ (search rules) c.withdrawn-upto.ensures.value) in
    (share_more c.args.self.now.injections.inputs.now c.loop-k.k _ _ c.loop-k-test.true (c.borne_upto-bears.ensures ∙ ap (borne (heua_of (basis_of c.args.self.now.injections.inputs.now)) (total_load (basis_of c.args.self.now.injections.inputs.now))) more.1) c.loop-k.invariant.2).0

pub line-requires : goal.line-requires
line-requires c =
    let more = load_more c.args.self.now.injections.inputs.now c.loop-k.k _ _ c.loop-k-test.true c.loop-k.invariant.1 (drawn_at c.args.self.now.injections.inputs.now c.loop-k.k _ _ (search rules) c.withdrawn-upto.ensures.value) in
    let share = share_more c.args.self.now.injections.inputs.now c.loop-k.k _ _ c.loop-k-test.true (c.borne_upto-bears.ensures ∙ ap (borne (heua_of (basis_of c.args.self.now.injections.inputs.now)) (total_load (basis_of c.args.self.now.injections.inputs.now))) more.1) c.loop-k.invariant.2 in
    record { place = c.loop-k-test.true; share = share.1 }

pub loop-k-preserved : goal.loop-k-preserved
loop-k-preserved c =
    let more = load_more c.args.self.now.injections.inputs.now c.loop-k.k _ _ c.loop-k-test.true c.loop-k.invariant.1 (drawn_at c.args.self.now.injections.inputs.now c.loop-k.k _ _ (search rules) c.withdrawn-upto.ensures.value) in
    let fits : SFits w128 c.borne_upto-bears.result.0 = search rules in
    let lt : c.loop-k.k < length c.loop-k.lines = omega arith in (
      length-set c.loop-k.lines c.loop-k.k _ ∙ c.loop-k.invariant.0,
      more.1,
      to_z-of_z w128 c.borne_upto-bears.result.0 fits ∙ c.borne_upto-bears.ensures ∙ ap (borne (heua_of (basis_of c.args.self.now.injections.inputs.now)) (total_load (basis_of c.args.self.now.injections.inputs.now))) more.1,
      lines_more (basis_of c.args.self.now.injections.inputs.now) c.loop-k.lines c.loop-k.k _ lt c.loop-k.invariant.3 c.line.ensures,
    )

pub returns : goal.returns
returns c k h d = c.loop-k.invariant.3 k (omega arith) d
