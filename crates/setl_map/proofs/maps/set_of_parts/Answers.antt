use Rattle.std.proofs.Common.{arith, ◌∙◌, ap, take}
use Rattle.setl_value.specs.code.Body.{Members}
use Rattle.setl_value.specs.Datum.{depth, set_of}
use Rattle.std.specs.List.{filter_map}
use Rattle.setl_set.specs.Sets.{set_from}
use Rattle.setl_map.specs.code.Points.{part_at}
use Rattle.setl_map.proofs.MapResults.{depth_parts, depth_take, take_whole}
use Rattle.setl_map.proofs.maps.set_of_parts.Goals as goal

pub gathered-requires : goal.gathered-requires
gathered-requires c =
    let ds = Members c.args.f.now in
    let made = c.in_ok-parts.ensures ∙ ap (λ l. filter_map (part_at c.args.first) (take c.len.result l)) c.members.ensures in
    omega (arith, ap (λ l. depth (set_of l)) made, depth_parts c.args.first (take c.len.result ds), depth_take c.len.result ds, c.learn.ensures.1)

pub returns : goal.returns
returns c =
    let ds = Members c.args.f.now in
    let made = c.in_ok-parts.ensures ∙ ap (λ l. filter_map (part_at c.args.first) (take c.len.result l)) c.members.ensures in
    c.in_ok-set.ensures ∙ ap set_from (made ∙ ap (λ n. filter_map (part_at c.args.first) (take n ds)) c.len.ensures ∙ ap (filter_map (part_at c.args.first)) (take_whole ds))
