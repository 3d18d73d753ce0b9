use Rattle.std.proofs.Common.{ap, sym, ◌∙◌}
use Rattle.std.proofs.lemmas.Result.{IfOk-weaker}
use Rattle.setl_value.specs.code.DatumOf.{datum, lent}
use Rattle.setl_map.proofs.Changing.{none_then}
use Rattle.setl_map.proofs.maps.change_image.Goals as goal

pub change_from-requires-clause-there : goal.change_from-requires-clause-there
change_from-requires-clause-there g c = (datum c.in-Some.field-0.now, sym c.image_from.ensures ∙ ap lent c.in-Some.is)

pub returns-clause-nothing : goal.returns-clause-nothing
returns-clause-nothing g c = IfOk-weaker c.change_from.result _ _ (λ o h. none_then o (λ n. absurd n) h) c.change_from.ensures.called

pub returns-clause-unchanged : goal.returns-clause-unchanged
returns-clause-unchanged g c = IfOk-weaker c.change_from.result _ _ (λ o h. none_then o (λ n. absurd n) h) c.change_from.ensures.called
