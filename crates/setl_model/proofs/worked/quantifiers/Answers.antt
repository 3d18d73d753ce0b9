use Rattle.setl_model.proofs.tables.Quantifiers.{quantifier_rows_hold}
use Rattle.setl_model.proofs.worked.quantifiers.Goals as goal

pub returns : goal.returns
returns c = record { quantifier_rows = quantifier_rows_hold }
