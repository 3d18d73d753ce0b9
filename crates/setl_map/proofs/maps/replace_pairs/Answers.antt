use Rattle.std.proofs.Common.{arith, ◌+◌, ◌≡◌, ◌∙◌, ap, sym, subst, take, drop, map, ◌++◌, OnOk, Some}
use Rattle.setl_value.specs.code.Body.{Members}
use Rattle.setl_value.specs.Datum.{depth, set_of}
use Rattle.setl_value.specs.code.DatumOf.{datum}
use Rattle.setl_value.specs.Order.{IsRising}
use Rattle.setl_value.specs.code.Places.{rank}
use Rattle.setl_map.proofs.Bounds.{rising_from_set}
use Rattle.setl_map.proofs.PairFacts.{all_pairs}
use Rattle.setl_map.proofs.Spans.{split_by_bounds}
use Rattle.setl_map.specs.Maps.{put_image}
use Rattle.setl_map.proofs.MapResults.{put_between, rising_put, depth_put, depth_without}
use Rattle.setl_map.proofs.maps.replace_pairs.Goals as goal

pub replace_in-requires-clause-there : goal.replace_in-requires-clause-there
replace_in-requires-clause-there c =
    let ds = Members c.args.f.now in
    let s = split_by_bounds (datum c.args.x) ds (rank c.args.f.now c.args.from) (rank c.args.f.now c.args.from + c.args.count) (all_pairs ds c.requires.map) c.requires.from c.requires.to in
    c.requires.to.within

pub replace_in-requires-clause-rising : goal.replace_in-requires-clause-rising
replace_in-requires-clause-rising c =
    let ds = Members c.args.f.now in
    let x = datum c.args.x in
    let y = datum c.args.y in
    let i = rank c.args.f.now c.args.from in
    let j = (rank c.args.f.now c.args.from + c.args.count) in
    let p = all_pairs ds c.requires.map in
    let s = split_by_bounds x ds i j p c.requires.from c.requires.to in
    let e : take i ds ++ map datum c.in_ok-pairs.pairs.items ++ drop j ds ≡ put_image x (Some y) ds = ap (λ l. take i ds ++ l ++ drop j ds) c.in_ok-pairs.ensures ∙ put_between x y ds i j p c.requires.from c.requires.to s in
    subst IsRising (sym e) (rising_put c.operations_have_their_members.ensures.insert x y ds (rising_from_set ds c.learn.ensures))

pub replace_in-requires-clause-shallow : goal.replace_in-requires-clause-shallow
replace_in-requires-clause-shallow c =
    let ds = Members c.args.f.now in
    let x = datum c.args.x in
    let y = datum c.args.y in
    let i = rank c.args.f.now c.args.from in
    let j = (rank c.args.f.now c.args.from + c.args.count) in
    let p = all_pairs ds c.requires.map in
    let s = split_by_bounds x ds i j p c.requires.from c.requires.to in
    let e : take i ds ++ map datum c.in_ok-pairs.pairs.items ++ drop j ds ≡ put_image x (Some y) ds = ap (λ l. take i ds ++ l ++ drop j ds) c.in_ok-pairs.ensures ∙ put_between x y ds i j p c.requires.from c.requires.to s in
    omega (arith, ap (λ l. depth (set_of l)) e, depth_put x y ds, depth_without x ds, c.learn.ensures.1, c.requires.shallow)

pub returns-clause-put : goal.returns-clause-put
returns-clause-put c =
    let ds = Members c.args.f.now in
    let x = datum c.args.x in
    let y = datum c.args.y in
    let i = rank c.args.f.now c.args.from in
    let j = (rank c.args.f.now c.args.from + c.args.count) in
    let p = all_pairs ds c.requires.map in
    let s = split_by_bounds x ds i j p c.requires.from c.requires.to in
    let e : take i ds ++ map datum c.in_ok-pairs.pairs.items ++ drop j ds ≡ put_image x (Some y) ds = ap (λ l. take i ds ++ l ++ drop j ds) c.in_ok-pairs.ensures ∙ put_between x y ds i j p c.requires.from c.requires.to s in
    subst (λ l. OnOk c.replace_in.result (Members c.replace_in.new.self ≡ l)) e c.replace_in.ensures.replaced
