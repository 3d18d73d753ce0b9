use Rattle.std.proofs.Common.{◌≡◌, ◌∙◌, ap, map, reverse, arith}
use Rattle.std.proofs.lemmas.Result.{IfOk-weaker}
use Rattle.setl_value.specs.Datum.{parts_depth, parts_of, tuple_of}
use Rattle.setl_value.specs.code.DatumOf.{part}
use Rattle.setl_value.specs.WellFormed.{trim}
use Rattle.setl_program.specs.declared.kinds.Collection.TheVariants.{OfTuple}
use Rattle.setl_model.specs.Collections.{collection}
use Rattle.setl_store_operands.specs.Operands.{member_of}
use Rattle.setl_store_operands.proofs.Collecting.{parts_are, shallow_parts, got_reversed, tuple_is}
use Rattle.setl_store_operands.proofs.collections.tuple.Goals as goal

pub of-requires : goal.of-requires
of-requires c = record {
  shallow =
      let vs = map member_of c.args.members.items in
      omega (arith, ap (λ l. parts_depth (parts_of l)) (parts_are c.args.members.items c.in_ok-components.field-0.items c.in_ok-components.ensures), shallow_parts vs (got_reversed OfTuple vs c.requires));
}

pub returns : goal.returns
returns c =
    let vs = map member_of c.args.members.items in
    let e = parts_are c.args.members.items c.in_ok-components.field-0.items c.in_ok-components.ensures in
    IfOk-weaker c.of.result (λ t. t ≡ trim (map part c.in_ok-components.field-0.items)) (λ t. tuple_of t ≡ collection OfTuple (reverse vs))
    (λ t is. ap tuple_of is ∙ ap (λ l. tuple_of (trim l)) e ∙ tuple_is vs) c.of.ensures.trimmed
