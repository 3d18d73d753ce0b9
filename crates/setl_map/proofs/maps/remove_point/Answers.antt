use Rattle.std.proofs.Common.{arith, ◌+◌, ◌≡◌, ◌∙◌, ap, sym, subst, append-nil, take, drop, map, ◌++◌, OnOk}
use Rattle.setl_value.specs.code.Body.{Members}
use Rattle.setl_value.specs.Datum.{depth, set_of}
use Rattle.setl_value.specs.code.DatumOf.{datum}
use Rattle.setl_value.specs.Order.{IsRising}
use Rattle.setl_value.specs.code.Places.{rank}
use Rattle.setl_map.proofs.Bounds.{rising_from_set}
use Rattle.setl_map.proofs.PairFacts.{all_pairs}
use Rattle.setl_map.proofs.Spans.{split_by_bounds}
use Rattle.setl_map.specs.Maps.{without_point}
use Rattle.setl_map.proofs.MapResults.{whole, rising_without, depth_without}
use Rattle.setl_map.proofs.maps.remove_point.Goals as goal

pub returns-then-count-eq0-clause-removed : goal.returns-then-count-eq0-clause-removed
returns-then-count-eq0-clause-removed c =
    let ds = Members c.args.f.now in
    let i = (rank c.args.f.now c.span-count.result.0) in
    let s = split_by_bounds (datum c.args.x.now) ds i ((rank c.args.f.now c.span-count.result.0) + c.span-count.result.1) (all_pairs ds c.requires) c.span-count.ensures.from c.span-count.ensures.to in
    sym (s.others ∙ ap (λ k. take i ds ++ drop k ds) {x = (rank c.args.f.now c.span-count.result.0) + c.span-count.result.1} {y = i} (omega (arith, c.if-count-eq0.true)) ∙ whole ds i)

pub replace_in-requires-clause-there : goal.replace_in-requires-clause-there
replace_in-requires-clause-there c =
    let ds = Members c.args.f.now in
    let s = split_by_bounds (datum c.args.x.now) ds (rank c.args.f.now c.span-count.result.0) ((rank c.args.f.now c.span-count.result.0) + c.span-count.result.1) (all_pairs ds c.requires) c.span-count.ensures.from c.span-count.ensures.to in
    c.span-count.ensures.to.within

pub replace_in-requires-clause-rising : goal.replace_in-requires-clause-rising
replace_in-requires-clause-rising c =
    let ds = Members c.args.f.now in
    let x = datum c.args.x.now in
    let i = (rank c.args.f.now c.span-count.result.0) in
    let j = ((rank c.args.f.now c.span-count.result.0) + c.span-count.result.1) in
    let s = split_by_bounds x ds i j (all_pairs ds c.requires) c.span-count.ensures.from c.span-count.ensures.to in
    let e : take i ds ++ map datum c.new.result.items ++ drop j ds ≡ without_point x ds = ap (λ l. take i ds ++ map datum l ++ drop j ds) c.new.ensures.items ∙ ap (λ l. l ++ drop j ds) (append-nil (take i ds)) ∙ sym s.others in
    subst IsRising (sym e) (rising_without x ds (rising_from_set ds c.learn.ensures))

pub replace_in-requires-clause-shallow : goal.replace_in-requires-clause-shallow
replace_in-requires-clause-shallow c =
    let ds = Members c.args.f.now in
    let x = datum c.args.x.now in
    let i = (rank c.args.f.now c.span-count.result.0) in
    let j = ((rank c.args.f.now c.span-count.result.0) + c.span-count.result.1) in
    let s = split_by_bounds x ds i j (all_pairs ds c.requires) c.span-count.ensures.from c.span-count.ensures.to in
    let e : take i ds ++ map datum c.new.result.items ++ drop j ds ≡ without_point x ds = ap (λ l. take i ds ++ map datum l ++ drop j ds) c.new.ensures.items ∙ ap (λ l. l ++ drop j ds) (append-nil (take i ds)) ∙ sym s.others in
    omega (arith, ap (λ l. depth (set_of l)) e, depth_without x ds, c.learn.ensures.1)

pub returns-clause-removed : goal.returns-clause-removed
returns-clause-removed c =
    let ds = Members c.args.f.now in
    let x = datum c.args.x.now in
    let i = (rank c.args.f.now c.span-count.result.0) in
    let j = ((rank c.args.f.now c.span-count.result.0) + c.span-count.result.1) in
    let s = split_by_bounds x ds i j (all_pairs ds c.requires) c.span-count.ensures.from c.span-count.ensures.to in
    let e : take i ds ++ map datum c.new.result.items ++ drop j ds ≡ without_point x ds = ap (λ l. take i ds ++ map datum l ++ drop j ds) c.new.ensures.items ∙ ap (λ l. l ++ drop j ds) (append-nil (take i ds)) ∙ sym s.others in
    subst (λ l. OnOk c.replace_in.result (Members c.replace_in.new.self ≡ l)) e c.replace_in.ensures.replaced
