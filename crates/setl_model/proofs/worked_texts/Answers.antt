use Rattle.setl_model.proofs.Rows.{mixed_text, nested_text}
use Rattle.setl_model.proofs.worked_texts.Goals as goal

pub returns-clause-mixed_values : goal.returns-clause-mixed_values
returns-clause-mixed_values c = mixed_text

pub returns-clause-nested_values : goal.returns-clause-nested_values
returns-clause-nested_values c = nested_text
