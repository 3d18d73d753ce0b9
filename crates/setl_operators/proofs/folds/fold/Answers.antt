use Rattle.std.proofs.Common.{◌∙◌, ap, sym, subst}
use Rattle.setl_value.specs.code.Body.{Members}
use Rattle.setl_value.specs.code.DatumOf.{datum}
use Rattle.setl_operators_table.specs.code.Answers.{Tells}
use Rattle.setl_operators_table.specs.Folds.{fold_datum}
use Rattle.setl_operators.specs.Combinations.{combination}
use Rattle.setl_operators.proofs.Components.{over_members, over_components}
use Rattle.setl_operators.proofs.folds.fold.Goals as goal

pub returns-in-Set : goal.returns-in-Set
returns-in-Set c = subst (Tells c.fold_members.result) (over_members (combination c.args.by) c.args.turns (Members c.in-Set.s) ∙ ap (λ v. fold_datum (combination c.args.by) c.args.turns (datum v)) (sym c.in-Set.is)) c.fold_members.ensures

pub returns-in-Tuple : goal.returns-in-Tuple
returns-in-Tuple c = subst (Tells c.fold_components.result) (over_components (combination c.args.by) c.args.turns c.in-Tuple.t ∙ ap (λ v. fold_datum (combination c.args.by) c.args.turns (datum v)) (sym c.in-Tuple.is)) c.fold_components.ensures
