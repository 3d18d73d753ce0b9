use Rattle.std.proofs.Common.{◌≡◌, ap, sym, subst, ◌∙◌, arith, map, Some, slice_get, slice_set}
use Rattle.std.specs.Prelude.{◌<◌, length, IfNone, IfSome, unwrap_or, None}
use Rattle.setl_value_pages.specs.Pages.{items, joined, page_at, rank_in}
use Rattle.setl_value.specs.code.Body.{Members}
use Rattle.setl_value.specs.code.Changing.{ChangesPair, with_member}
use Rattle.setl_value.specs.code.Counted.{IsCounted}
use Rattle.setl_value.specs.Datum.{Datum, depth}
use Rattle.setl_value.specs.code.DatumOf.{datum, page}
use Rattle.setl_value.specs.Order.{IsRising}
use Rattle.setl_value.specs.Pairs.{pair_parts}
use Rattle.setl_value.specs.code.Places.{rank}
use Rattle.setl_value.specs.WellFormed.{IsValue}
use Rattle.std.proofs.lemmas.Option.{slice_get_within}
use Rattle.setl_value.proofs.Changing.{in_set, member_counted, member_joined, member_kept, member_now, shallow}
use Rattle.setl_value.proofs.Others.{counted}
use Rattle.setl_value.proofs.PagesOfData.{body_of, item_data, size_data}
use Rattle.setl_value.proofs.Pages.change_second.Goals as goal

pub change_second-requires-clause-grows : goal.change_second-requires-clause-grows
unfolding rank
change_second-requires-clause-grows g c = λ m there.
    let ps = map page c.self.inside.list.items in
    let k = c.standing-place.result.page in
    let i = c.standing-place.result.index in
    let r : rank_in ps k i ≡ rank_in ps c.args.c.page c.args.c.index = subst (λ l. rank_in (map page l) k i ≡ rank_in (map page l) c.args.c.page c.args.c.index) c.as_slice.ensures.value c.standing-place.ensures.rank in
    c.requires.grows m (subst (λ b. slice_get (Members b) (rank b c.args.c) ≡ Some m) c.self.view_is (ap (slice_get (joined ps)) (sym r) ∙ in_set ps k i m there))

pub item_at-member-requires : goal.item_at-member-requires
item_at-member-requires g c =
    let ps = map page c.self.inside.list.items in
    let ys = c.change_second.new.list.items in
    let k = c.standing-place.result.page in
    let i = c.standing-place.result.index in
    let e = subst (λ o. IfSome o (λ a. (m : Datum) × (n : Datum) × (slice_get (page_at ps k) i ≡ Some m) × ChangesPair g.F.FnOnce c.args.change m a n × (map page ys ≡ with_member ps k i n))) c.in-Some.is c.in_ok-change_second.ensures.changed in
    let here : slice_get (page_at (map page ys) k) i ≡ Some e.1 = ap (λ l. slice_get (page_at l k) i) e.4 ∙ member_now ps k i e.0 e.2 e.1 in
    subst (λ l. i < length (page_at (map items l) k)) (sym c.as_slice-in-Some.ensures.value) (omega (arith, slice_get_within (page_at (map page ys) k) i e.1 here, size_data ys k))

pub invariant_of-self-in-Some : goal.invariant_of-self-in-Some
unfolding rank
invariant_of-self-in-Some g c =
    let ps = map page c.self.inside.list.items in
    let ys = c.change_second.new.list.items in
    let k = c.standing-place.result.page in
    let i = c.standing-place.result.index in
    let r : rank_in ps k i ≡ rank_in ps c.args.c.page c.args.c.index = subst (λ l. rank_in (map page l) k i ≡ rank_in (map page l) c.args.c.page c.args.c.index) c.as_slice.ensures.value c.standing-place.ensures.rank in
    let e = subst (λ o. IfSome o (λ a. (m : Datum) × (n : Datum) × (slice_get (page_at ps k) i ≡ Some m) × ChangesPair g.F.FnOnce c.args.change m a n × (map page ys ≡ with_member ps k i n))) c.in-Some.is c.in_ok-change_second.ensures.changed in
    let m = e.0 in
    let n = e.1 in
    let there = e.2 in
    let change = e.3 in
    let place = subst (λ b. slice_get (Members b) (rank b c.args.c) ≡ Some m) c.self.view_is (ap (slice_get (joined ps)) (sym r) ∙ in_set ps k i m there) in
    let grows = c.requires.grows m place change.first change.old change.was c.in-Some.answer change.new change.left in
    let lent : slice_get (page_at (map page ys) k) i ≡ Some (datum c.item_at-member.result.now) = ap (λ l. slice_get (page_at (map page l) k) i) (sym c.as_slice-in-Some.ensures.value) ∙ item_data c.as_slice-in-Some.result.now k i c.item_at-member.result.now c.item_at-member.ensures in
    let is : datum c.item_at-member.result.now ≡ n = ap (λ o. unwrap_or o n) (sym lent ∙ ap (λ l. slice_get (page_at l k) i) e.4 ∙ member_now ps k i m there n) in
    let rising = subst (λ b. IsRising (slice_set (Members b) (rank b c.args.c) n)) (sym c.self.view_is) (c.requires.rising m place c.in-Some.answer n change) in
    let size = shallow ps k i m there c.self.invariant.members in
    subst (λ l. IsCounted l c.self.inside.count c.max-self-inside.result c.self.inside.others) (sym e.4)
    (member_counted ps k i m there n c.max-self-inside.result c.self.invariant (subst IsValue is c.learn.ensures).0 (ap counted change.is ∙ sym (ap counted change.was))
    (omega (arith, ap depth change.was, ap depth change.is, grows.0)) (omega (arith, ap depth change.was, ap depth change.is, grows.1, size))
    (subst (λ j. IsRising (slice_set (joined ps) j n)) (sym r) rising) (omega (arith, c.max-self-inside.ensures, c.depth.ensures, ap depth is)))

pub returns-in-None-clause-nothing : goal.returns-in-None-clause-nothing
unfolding rank
returns-in-None-clause-nothing g c =
    let ps = map page c.self.inside.list.items in
    let k = c.standing-place.result.page in
    let i = c.standing-place.result.index in
    let r : rank_in ps k i ≡ rank_in ps c.args.c.page c.args.c.index = subst (λ l. rank_in (map page l) k i ≡ rank_in (map page l) c.args.c.page c.args.c.index) c.as_slice.ensures.value c.standing-place.ensures.rank in
    let e = subst (λ o. IfNone o ((m : Datum) × (slice_get (page_at ps k) i ≡ Some m) × (pair_parts m ≡ None))) c.in-None.is c.in_ok-change_second.ensures.nothing in
    (e.0, subst (λ b. slice_get (Members b) (rank b c.args.c) ≡ Some e.0) c.self.view_is (ap (slice_get (joined ps)) (sym r) ∙ in_set ps k i e.0 e.1), e.2)

pub returns-in-Some-clause-changed : goal.returns-in-Some-clause-changed
unfolding rank
returns-in-Some-clause-changed g c =
    let ps = map page c.self.inside.list.items in
    let ys = c.change_second.new.list.items in
    let k = c.standing-place.result.page in
    let i = c.standing-place.result.index in
    let r : rank_in ps k i ≡ rank_in ps c.args.c.page c.args.c.index = subst (λ l. rank_in (map page l) k i ≡ rank_in (map page l) c.args.c.page c.args.c.index) c.as_slice.ensures.value c.standing-place.ensures.rank in
    let e = subst (λ o. IfSome o (λ a. (m : Datum) × (n : Datum) × (slice_get (page_at ps k) i ≡ Some m) × ChangesPair g.F.FnOnce c.args.change m a n × (map page ys ≡ with_member ps k i n))) c.in-Some.is c.in_ok-change_second.ensures.changed in
    let m = e.0 in
    let n = e.1 in
    let there = e.2 in (
      m,
      n,
      subst (λ b. slice_get (Members b) (rank b c.args.c) ≡ Some m) c.self.view_is (ap (slice_get (joined ps)) (sym r) ∙ in_set ps k i m there),
      e.3,
      ap joined e.4 ∙ member_joined ps k i m there n c.self.invariant.pages ∙ ap (λ j. slice_set (joined ps) j n) r ∙ ap (λ b. slice_set (Members b) (rank b c.args.c) n) c.self.view_is,
      λ same. ap body_of (e.4 ∙ ap (with_member ps k i) same ∙ member_kept ps k i m there) ∙ c.self.view_is,
    )
