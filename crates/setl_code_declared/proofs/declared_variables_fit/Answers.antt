use Rattle.setl_code_declared.proofs.Cells.{starts_fit, held_fits}
use Rattle.setl_code_declared.proofs.Moving.{runs_fit}
use Rattle.setl_code_declared.proofs.declared_variables_fit.Goals as goal

pub returns : goal.returns
returns c = record { starts = starts_fit; runs = runs_fit; held = held_fits }
