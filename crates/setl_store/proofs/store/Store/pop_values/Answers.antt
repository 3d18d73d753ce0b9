use Rattle.std.proofs.Common.{◌∙◌, [], sym}
use Rattle.setl_store.proofs.HasValues.{lacks}
use Rattle.setl_store.proofs.Serving.{enough}
use Rattle.setl_store.proofs.store.Store.pop_values.Goals as goal

pub returns-then-not-has_values-clause-values : goal.returns-then-not-has_values-clause-values
returns-then-not-has_values-clause-values c = lacks c.args.count [] c.args.self.now.core.now.operands (sym c.has_values.ensures ∙ c.if-not-has_values.true)

pub drop_top_ones-requires : goal.drop_top_ones-requires
drop_top_ones-requires c = enough c.args.count c.args.self.now.core.now.operands (sym c.has_values.ensures ∙ c.if-not-has_values.false)
