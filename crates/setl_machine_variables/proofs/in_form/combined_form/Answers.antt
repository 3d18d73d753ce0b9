use Rattle.std.proofs.Common.{ap, arith}
use Rattle.setl_code.specs.Plain.{plain_alteration}
use Rattle.setl_machine_variables.proofs.Freely.{no_brackets}
use Rattle.setl_machine_variables.proofs.in_form.combined_form.Goals as goal

pub returns : goal.returns
returns c = (ap plain_alteration c.in-Combine.is, no_brackets c.args.brackets.now (omega (arith, c.if-count-gt0.false)), c.in-Some.ensures.0)
