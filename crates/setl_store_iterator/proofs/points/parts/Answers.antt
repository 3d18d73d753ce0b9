use Rattle.std.proofs.Common.{ap, ◌∙◌, Some}
use Rattle.setl_value.specs.code.Body.{Members}
use Rattle.setl_value.specs.code.DatumOf.{datum}
use Rattle.setl_store_iterator.proofs.PointSteps.{member_is_pair, member_parts, pair_is_tuple, pair_is, first_there, second_there}
use Rattle.setl_store_iterator.proofs.points.parts.Goals as goal

pub unreachable-requires : goal.unreachable-requires
unreachable-requires c =
    let v = c.member_at.result.now in
    let p = member_is_pair (Members c.args.f.now) c.args.at.index (datum v) c.requires.map c.member_at.ensures in
    pair_is_tuple v p.0 p.1 c.in_default.not-Tuple

pub unreachable-requires-in_default-at : goal.unreachable-requires-in_default-at
unreachable-requires-in_default-at c =
    let p = member_parts (Members c.args.f.now) c.args.at.index c.member_at.result.now c.in-Tuple.t c.requires.map c.member_at.ensures c.in-Tuple.is in
    first_there c.in-Tuple.t p.0 p.1 c.in_default-at.ensures

pub unreachable-requires-in_default-at-2 : goal.unreachable-requires-in_default-at-2
unreachable-requires-in_default-at-2 c =
    let p = member_parts (Members c.args.f.now) c.args.at.index c.member_at.result.now c.in-Tuple.t c.requires.map c.member_at.ensures c.in-Tuple.is in
    second_there c.in-Tuple.t p.0 p.1 c.in_default-at-2.ensures

pub returns : goal.returns
returns c =
    let p = member_parts (Members c.args.f.now) c.args.at.index c.member_at.result.now c.in-Tuple.t c.requires.map c.member_at.ensures c.in-Tuple.is in
    c.member_at.ensures
    ∙ ap (λ d. Some d) (ap datum c.in-Tuple.is ∙ pair_is c.in-Tuple.t p.0 (datum c.in-Some.x.now) (datum c.in-Some-at.y.now) p.1 c.in-Some.ensures c.in-Some-at.ensures)
