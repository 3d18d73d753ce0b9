use Rattle.std.proofs.Common.{arith, length, ◌<◌, ◌≡◌, ◌-◌, ap, ◌∙◌, sym, subst, map, slice_get, Some}
use Rattle.std.specs.List.{remove}
use Rattle.setl_value.proofs.Counting.{cut_joined, cut_counted}
use Rattle.setl_value.proofs.Depths.{set_without}
use Rattle.setl_value.proofs.Others.{count_remove}
use Rattle.setl_value_pages.specs.PageLaws.{item_of}
use Rattle.setl_value_pages.specs.Pages.{joined, page_at, rank_in}
use Rattle.setl_value.specs.code.Body.{Members}
use Rattle.setl_value.specs.code.Counted.{IsCounted}
use Rattle.setl_value.specs.Datum.{depth, set_of}
use Rattle.setl_value.specs.code.DatumOf.{datum, page}
use Rattle.setl_value.specs.code.Places.{HasPlace, rank}
use Rattle.setl_value.proofs.PagesOfData.{body_of, exchanges_data, item_data, same_data, size_data, still, were_pages}
use Rattle.setl_value.proofs.Pages.cut_in.Goals as goal

pub cut_page-requires-clause-pages : goal.cut_page-requires-clause-pages
cut_page-requires-clause-pages c = were_pages c.self.inside.list.items c.self.invariant.pages

pub cut_page-requires-clause-item : goal.cut_page-requires-clause-item
cut_page-requires-clause-item c =
    let k = c.standing-place.result.page in
    let i = c.standing-place.result.index in
    let h : i < length (page_at (map page c.self.inside.list.items) k) = subst (λ l. i < length (page_at (map page l) k)) c.as_slice.ensures.value c.standing-place.ensures.index in
    omega (arith, h, size_data c.self.inside.list.items k)

pub invariant_of-self : goal.invariant_of-self
invariant_of-self c =
    subst (λ ps. IsCounted ps c.self.inside.count c.self.inside.deep c.self.inside.others) (sym (same_data c.self.inside.list.items c.cut_page.new.list.items c.in_err-v.ensures.refused)) c.self.invariant

pub returns-in_err-v-clause-refused : goal.returns-in_err-v-clause-refused
returns-in_err-v-clause-refused c =
    still c.from_residual.result (ap body_of (same_data c.self.inside.list.items c.cut_page.new.list.items c.in_err-v.ensures.refused) ∙ c.self.view_is)

pub depth_without-self-inside-requires-clause-cut : goal.depth_without-self-inside-requires-clause-cut
depth_without-self-inside-requires-clause-cut c =
    let xs = c.self.inside.list.items in
    let ps = map page xs in
    let k = c.standing-place.result.page in
    let i = c.standing-place.result.index in
    let h : i < length (page_at ps k) = subst (λ l. i < length (page_at (map page l) k)) c.as_slice.ensures.value c.standing-place.ensures.index in
    let w = cut_joined h (exchanges_data c.self.inside.list.items c.cut_page.new.list.items c.in_ok-v.ensures.cut) in
    let there : slice_get (joined ps) (rank_in ps k i) ≡ Some (datum c.in_ok-v.v) = item_of ps k i h ∙ item_data c.self.inside.list.items k i c.in_ok-v.v c.in_ok-v.ensures.taken in
    omega (arith, ap (λ l. depth (set_of (joined (map page l)))) c.as_slice-2.ensures.value, ap (λ l. depth (set_of l)) w, set_without (joined ps) (rank_in ps k i) (datum c.in_ok-v.v) there, c.depth.ensures, c.self.invariant.deepest)

pub overflow_sub-self-2 : goal.overflow_sub-self-2
overflow_sub-self-2 c =
    let xs = c.self.inside.list.items in
    let ps = map page xs in
    let k = c.standing-place.result.page in
    let i = c.standing-place.result.index in
    let h : i < length (page_at ps k) = subst (λ l. i < length (page_at (map page l) k)) c.as_slice.ensures.value c.standing-place.ensures.index in
    let there : slice_get (joined ps) (rank_in ps k i) ≡ Some (datum c.in_ok-v.v) = item_of ps k i h ∙ item_data c.self.inside.list.items k i c.in_ok-v.v c.in_ok-v.ensures.taken in
    omega (arith, c.self.invariant.no_pairs, c.other.ensures, count_remove (joined ps) (rank_in ps k i) (datum c.in_ok-v.v) there)

pub invariant_of-self-2 : goal.invariant_of-self-2
invariant_of-self-2 c =
    let xs = c.self.inside.list.items in
    let ps = map page xs in
    let k = c.standing-place.result.page in
    let i = c.standing-place.result.index in
    let h : i < length (page_at ps k) = subst (λ l. i < length (page_at (map page l) k)) c.as_slice.ensures.value c.standing-place.ensures.index in
    cut_counted c.self.invariant h (exchanges_data c.self.inside.list.items c.cut_page.new.list.items c.in_ok-v.ensures.cut) (item_data c.self.inside.list.items k i c.in_ok-v.v c.in_ok-v.ensures.taken) (c.self.inside.count - 1) c.depth_without-self-inside.result (c.self.inside.others - c.other.result) (omega arith)
    (c.depth_without-self-inside.ensures ∙ ap (λ l. depth (set_of (joined (map page l)))) c.as_slice-2.ensures.value) (omega (arith, c.other.ensures))

pub returns-clause-cut : goal.returns-clause-cut
unfolding HasPlace rank
returns-clause-cut c =
    let xs = c.self.inside.list.items in
    let ps = map page xs in
    let k = c.standing-place.result.page in
    let i = c.standing-place.result.index in
    let h : i < length (page_at ps k) = subst (λ l. i < length (page_at (map page l) k)) c.as_slice.ensures.value c.standing-place.ensures.index in
    let r : rank_in ps k i ≡ rank_in ps c.args.c.page c.args.c.index = subst (λ l. rank_in (map page l) k i ≡ rank_in (map page l) c.args.c.page c.args.c.index) c.as_slice.ensures.value c.standing-place.ensures.rank in (
      subst (λ b. slice_get (Members b) (rank b c.args.c) ≡ Some (datum c.in_ok-v.v)) c.self.view_is (ap (slice_get (joined ps)) (sym r) ∙ item_of ps k i h ∙ item_data c.self.inside.list.items k i c.in_ok-v.v c.in_ok-v.ensures.taken),
      cut_joined h (exchanges_data c.self.inside.list.items c.cut_page.new.list.items c.in_ok-v.ensures.cut) ∙ ap (remove (joined ps)) r ∙ ap (λ b. remove (Members b) (rank b c.args.c)) c.self.view_is,
    )
