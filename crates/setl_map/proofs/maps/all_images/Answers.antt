use Rattle.std.proofs.Common.{arith, ◌+◌, ◌∙◌, ap, sym, subst}
use Rattle.setl_value.specs.code.Body.{Members}
use Rattle.setl_value.specs.Datum.{depth, set_of}
use Rattle.setl_value.specs.code.DatumOf.{datum}
use Rattle.setl_value.specs.Order.{IsRising}
use Rattle.setl_value.specs.code.Places.{rank}
use Rattle.setl_map.proofs.Bounds.{rising_from_set}
use Rattle.setl_map.proofs.PairFacts.{all_pairs}
use Rattle.setl_map.proofs.Spans.{split_by_bounds}
use Rattle.std.proofs.Common.{◌≡◌, map, slice_range, false}
use Rattle.std.specs.List.{filter_map}
use Rattle.setl_map.specs.code.Points.{part_at}
use Rattle.setl_map.proofs.MapResults.{images_between, rising_images, depth_parts, depth_range, span_is}
use Rattle.setl_map.proofs.maps.all_images.Goals as goal

pub from_rising-requires-clause-rising : goal.from_rising-requires-clause-rising
from_rising-requires-clause-rising c =
    let ds = Members c.args.f.now in
    let made : map datum c.in_ok-images.images.items ≡ filter_map (part_at false) (slice_range ds (rank c.args.f.now c.span-count.result.0) ((rank c.args.f.now c.span-count.result.0) + c.span-count.result.1)) = c.in_ok-images.ensures ∙ span_is (part_at false) ds (rank c.args.f.now c.span-count.result.0) c.span-count.result.1 c.members_from.result c.members_from.ensures in
    let x = datum c.args.x.now in
    let p = all_pairs ds c.requires in
    let s = split_by_bounds x ds (rank c.args.f.now c.span-count.result.0) ((rank c.args.f.now c.span-count.result.0) + c.span-count.result.1) p c.span-count.ensures.from c.span-count.ensures.to in
    subst IsRising (sym (made ∙ sym (images_between x ds (rank c.args.f.now c.span-count.result.0) ((rank c.args.f.now c.span-count.result.0) + c.span-count.result.1) s))) (rising_images x ds p (rising_from_set ds c.learn.ensures))

pub from_rising-requires-clause-shallow : goal.from_rising-requires-clause-shallow
from_rising-requires-clause-shallow c =
    let ds = Members c.args.f.now in
    let made : map datum c.in_ok-images.images.items ≡ filter_map (part_at false) (slice_range ds (rank c.args.f.now c.span-count.result.0) ((rank c.args.f.now c.span-count.result.0) + c.span-count.result.1)) = c.in_ok-images.ensures ∙ span_is (part_at false) ds (rank c.args.f.now c.span-count.result.0) c.span-count.result.1 c.members_from.result c.members_from.ensures in
    let i = (rank c.args.f.now c.span-count.result.0) in
    let j = ((rank c.args.f.now c.span-count.result.0) + c.span-count.result.1) in
    omega (arith, ap (λ l. depth (set_of l)) made, depth_parts false (slice_range ds i j), depth_range ds i j, c.learn.ensures.1)

pub returns : goal.returns
returns c =
    let ds = Members c.args.f.now in
    let made : map datum c.in_ok-images.images.items ≡ filter_map (part_at false) (slice_range ds (rank c.args.f.now c.span-count.result.0) ((rank c.args.f.now c.span-count.result.0) + c.span-count.result.1)) = c.in_ok-images.ensures ∙ span_is (part_at false) ds (rank c.args.f.now c.span-count.result.0) c.span-count.result.1 c.members_from.result c.members_from.ensures in
    let x = datum c.args.x.now in
    let p = all_pairs ds c.requires in
    let s = split_by_bounds x ds (rank c.args.f.now c.span-count.result.0) ((rank c.args.f.now c.span-count.result.0) + c.span-count.result.1) p c.span-count.ensures.from c.span-count.ensures.to in
    c.in_ok-set.ensures.made ∙ made ∙ sym (images_between x ds (rank c.args.f.now c.span-count.result.0) ((rank c.args.f.now c.span-count.result.0) + c.span-count.result.1) s)
