use Rattle.std.proofs.Common.{rules}
use Rattle.figures.specs.Meaning.{basis_of}
use Rattle.formulas.proofs.Cases.{cases_come_out}
use Rattle.formulas.proofs.Conservation.{conserved}
use Rattle.figures.proofs.Gathered.{inputs_parties}
use Rattle.formulas.proofs.Shares.{uplift_shared}
use Rattle.figures.proofs.worked.settle.Goals as goal

pub returns : goal.returns
returns c = record {
  number = search rules;
  figures = search rules;
  uplift = uplift_shared (basis_of c.args.inputs.now);
  conserved = conserved (basis_of c.args.inputs.now) (inputs_parties c.args.inputs.now);
  cases = cases_come_out;
}

pub returns-in_err-check : goal.returns-in_err-check
returns-in_err-check c = record {
  number = search rules;
  figures = search rules;
  uplift = uplift_shared (basis_of c.args.inputs.now);
  conserved = conserved (basis_of c.args.inputs.now) (inputs_parties c.args.inputs.now);
  cases = cases_come_out;
}
