use Rattle.std.proofs.Common.{arith, ◌≡◌, ◌∙◌, ap, sym, subst, OnOk, Some}
use Rattle.std.specs.List.{insert}
use Rattle.setl_value.specs.code.Body.{Members}
use Rattle.setl_value.specs.Datum.{depth, set_of}
use Rattle.setl_value.specs.code.DatumOf.{datum}
use Rattle.setl_value.specs.Order.{IsRising}
use Rattle.setl_value.specs.code.Places.{rank}
use Rattle.setl_map.proofs.Bounds.{rising_from_set}
use Rattle.setl_map.proofs.Changing.{put_alone}
use Rattle.setl_map.proofs.MapResults.{rising_put, depth_put, depth_without}
use Rattle.setl_map.proofs.PairFacts.{all_pairs}
use Rattle.setl_map.proofs.maps.put_first.Goals as goal

pub put_in-requires-clause-rising : goal.put_in-requires-clause-rising
put_in-requires-clause-rising c =
    let ds = Members c.args.f.now in
    let x = datum c.args.x in
    let y = datum c.args.y in
    let i = rank c.args.f.now c.args.from in
    let e = put_alone x y ds i (all_pairs ds c.requires.map) c.requires.from c.requires.to in
    subst IsRising (sym (ap (insert ds i) c.in_ok-pair.ensures ∙ e)) (rising_put c.operations_have_their_members.ensures.insert x y ds (rising_from_set ds c.learn.ensures))

pub put_in-requires-clause-shallow : goal.put_in-requires-clause-shallow
put_in-requires-clause-shallow c =
    let ds = Members c.args.f.now in
    let x = datum c.args.x in
    let y = datum c.args.y in
    let i = rank c.args.f.now c.args.from in
    let e = put_alone x y ds i (all_pairs ds c.requires.map) c.requires.from c.requires.to in
    omega (arith, ap (λ l. depth (set_of l)) (ap (insert ds i) c.in_ok-pair.ensures ∙ e), depth_put x y ds, depth_without x ds, c.learn.ensures.1, c.requires.shallow)

pub returns-clause-put : goal.returns-clause-put
returns-clause-put c =
    let ds = Members c.args.f.now in
    let x = datum c.args.x in
    let y = datum c.args.y in
    let i = rank c.args.f.now c.args.from in
    let e = put_alone x y ds i (all_pairs ds c.requires.map) c.requires.from c.requires.to in
    subst (λ l. OnOk c.put_in.result (Members c.put_in.new.self ≡ l)) (ap (insert ds i) c.in_ok-pair.ensures ∙ e) c.put_in.ensures.put
