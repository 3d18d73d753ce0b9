use Rattle.std.proofs.Common.{arith, ◌+◌, ◌≡◌, ◌∙◌, ap, sym, subst, take, drop, map, ◌++◌, OnOk}
use Rattle.setl_value.specs.code.Body.{Members}
use Rattle.setl_value.specs.Datum.{depth, set_of}
use Rattle.setl_value.specs.code.DatumOf.{datum}
use Rattle.setl_value.specs.Order.{IsRising}
use Rattle.setl_value.specs.code.Places.{rank}
use Rattle.setl_map.proofs.Bounds.{rising_from_set}
use Rattle.setl_map.proofs.PairFacts.{all_pairs}
use Rattle.setl_map.proofs.Spans.{split_by_bounds}
use Rattle.std.proofs.lemmas.Bool.{ltb-false}
use Rattle.setl_map.proofs.MapResults.{point_pairs, put_all_between, rising_put_all, deep_put_all}
use Rattle.setl_map.proofs.maps.put_shallow_images.Goals as goal

pub replace_in-requires-clause-there : goal.replace_in-requires-clause-there
replace_in-requires-clause-there c =
    let ds = Members c.args.f.now in
    let s = split_by_bounds (datum c.args.x.now) ds (rank c.args.f.now c.span-count.result.0) ((rank c.args.f.now c.span-count.result.0) + c.span-count.result.1) (all_pairs ds c.requires.map) c.span-count.ensures.from c.span-count.ensures.to in
    c.span-count.ensures.to.within

pub replace_in-requires-clause-rising : goal.replace_in-requires-clause-rising
replace_in-requires-clause-rising c =
    let ds = Members c.args.f.now in
    let x = datum c.args.x.now in
    let ys = Members c.args.s.now in
    let i = (rank c.args.f.now c.span-count.result.0) in
    let j = ((rank c.args.f.now c.span-count.result.0) + c.span-count.result.1) in
    let p = all_pairs ds c.requires.map in
    let s = split_by_bounds x ds i j p c.span-count.ensures.from c.span-count.ensures.to in
    let r : IsRising ((take i ds ++ point_pairs x ys) ++ drop j ds) = rising_put_all x ys ds i j p (rising_from_set ds c.learn.ensures) (rising_from_set ys c.learn-2.ensures) c.span-count.ensures.from c.span-count.ensures.to s in
    let e : take i ds ++ map datum c.in_ok-pairs.pairs.items ++ drop j ds ≡ (take i ds ++ point_pairs x ys) ++ drop j ds = ap (λ l. take i ds ++ l ++ drop j ds) c.in_ok-pairs.ensures in
    subst IsRising (sym e) r

pub replace_in-requires-clause-shallow : goal.replace_in-requires-clause-shallow
replace_in-requires-clause-shallow c =
    let ds = Members c.args.f.now in
    let x = datum c.args.x.now in
    let ys = Members c.args.s.now in
    let i = (rank c.args.f.now c.span-count.result.0) in
    let j = ((rank c.args.f.now c.span-count.result.0) + c.span-count.result.1) in
    let p = all_pairs ds c.requires.map in
    let s = split_by_bounds x ds i j p c.span-count.ensures.from c.span-count.ensures.to in
    let r : IsRising ((take i ds ++ point_pairs x ys) ++ drop j ds) = rising_put_all x ys ds i j p (rising_from_set ds c.learn.ensures) (rising_from_set ys c.learn-2.ensures) c.span-count.ensures.from c.span-count.ensures.to s in
    let e : take i ds ++ map datum c.in_ok-pairs.pairs.items ++ drop j ds ≡ (take i ds ++ point_pairs x ys) ++ drop j ds = ap (λ l. take i ds ++ l ++ drop j ds) c.in_ok-pairs.ensures in
    let f = put_all_between c.rising_lists_agree.ensures c.tests_are_exact.ensures.membership c.operations_have_their_members.ensures.gather x ys ds i j s r in
    omega (arith, ap (λ l. depth (set_of l)) e, ap (λ l. depth (set_of l)) f, ltb-false 500 _ (sym (deep_put_all x ys ds c.learn.ensures.1) ∙ c.requires.shallow))

pub returns-clause-put : goal.returns-clause-put
returns-clause-put c =
    let ds = Members c.args.f.now in
    let x = datum c.args.x.now in
    let ys = Members c.args.s.now in
    let i = (rank c.args.f.now c.span-count.result.0) in
    let j = ((rank c.args.f.now c.span-count.result.0) + c.span-count.result.1) in
    let p = all_pairs ds c.requires.map in
    let s = split_by_bounds x ds i j p c.span-count.ensures.from c.span-count.ensures.to in
    let r : IsRising ((take i ds ++ point_pairs x ys) ++ drop j ds) = rising_put_all x ys ds i j p (rising_from_set ds c.learn.ensures) (rising_from_set ys c.learn-2.ensures) c.span-count.ensures.from c.span-count.ensures.to s in
    let e : take i ds ++ map datum c.in_ok-pairs.pairs.items ++ drop j ds ≡ (take i ds ++ point_pairs x ys) ++ drop j ds = ap (λ l. take i ds ++ l ++ drop j ds) c.in_ok-pairs.ensures in
    let f = put_all_between c.rising_lists_agree.ensures c.tests_are_exact.ensures.membership c.operations_have_their_members.ensures.gather x ys ds i j s r in
    subst (λ l. OnOk c.replace_in.result (Members c.replace_in.new.self ≡ l)) (e ∙ f) c.replace_in.ensures.replaced
