use Rattle.std.proofs.Common.{◌≡◌, ◌∙◌, ap, map, arith}
use Rattle.setl_value.specs.WellFormed.{trim}
use Rattle.setl_value.specs.code.DatumOf.{part}
use Rattle.setl_rep_forms.specs.Stands.{parts_at}
use Rattle.setl_rep_based.proofs.Handling.{trimmed, none_left}
use Rattle.setl_rep_based.proofs.plain.tuple_of_handles.Goals as goal

pub returns : goal.returns
returns c =
    let same : map part c.loop-e.parts.items ≡ parts_at c.args.base.now c.args.list.now = none_left c.args.base.now (map part c.loop-e.parts.items) c.loop-e.e-index c.args.list.now (omega arith) c.loop-e.invariant in
    c.in_ok-tuple.ensures.trimmed ∙ ap trim same ∙ trimmed (parts_at c.args.base.now c.args.list.now) c.requires.trimmed
