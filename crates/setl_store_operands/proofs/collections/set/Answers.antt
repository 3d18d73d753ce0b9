use Rattle.std.proofs.Common.{◌≡◌, ◌∙◌, ap, map, reverse, arith}
use Rattle.std.proofs.lemmas.Result.{IfOk-weaker}
use Rattle.setl_value.specs.code.Body.{Members}
use Rattle.setl_value.specs.Datum.{elements_depth, elements_of, set_of}
use Rattle.setl_value.specs.code.DatumOf.{datum}
use Rattle.setl_set.specs.Sets.{set_from}
use Rattle.setl_program.specs.declared.kinds.Collection.TheVariants.{OfSet}
use Rattle.setl_model.specs.Collections.{collection}
use Rattle.setl_store_operands.specs.Operands.{member_of}
use Rattle.setl_store_operands.proofs.Collecting.{reversed_present, shallow_present, set_is}
use Rattle.setl_store_operands.proofs.collections.set.Goals as goal

pub gathered-requires : goal.gathered-requires
gathered-requires c =
    let vs = reverse (map member_of c.args.members.items) in
    let e = reversed_present c.args.members.items c.reverse.new.self.items c.in_ok-present.field-0.items c.reverse.ensures.items c.in_ok-present.ensures in
    omega (arith, ap (λ l. elements_depth (elements_of l)) e, shallow_present vs c.requires)

pub returns : goal.returns
returns c =
    let vs = reverse (map member_of c.args.members.items) in
    let e = reversed_present c.args.members.items c.reverse.new.self.items c.in_ok-present.field-0.items c.reverse.ensures.items c.in_ok-present.ensures in
    IfOk-weaker c.gathered.result (λ s. Members s ≡ set_from (map datum c.in_ok-present.field-0.items)) (λ s. set_of (Members s) ≡ collection OfSet vs)
    (λ s is. ap set_of is ∙ set_is vs (map datum c.in_ok-present.field-0.items) c.requires e) c.gathered.ensures
