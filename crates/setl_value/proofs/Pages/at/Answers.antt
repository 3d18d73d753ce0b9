use Rattle.std.proofs.Common.{arith, ◌≡◌, ◌<◌, ◌∙◌, ap, sym, subst, map, length, slice_get, Some}
use Rattle.setl_value_pages.specs.ListLaws.{item_there}
use Rattle.setl_value.proofs.Bodies.{set_at}
use Rattle.setl_value_pages.specs.PageLaws.{item_of}
use Rattle.setl_value_pages.specs.Pages.{joined, page_at, rank_in}
use Rattle.setl_value.specs.code.Body.{Members}
use Rattle.setl_value.specs.code.DatumOf.{datum, page}
use Rattle.setl_value.specs.WellFormed.{IsSetList}
use Rattle.setl_value.proofs.PagesOfData.{item_data, size_data}
use Rattle.setl_value.proofs.Pages.at.Goals as goal

pub bounds-items_at-place : goal.bounds-items_at-place
bounds-items_at-place c =
    omega (arith, c.standing-place.ensures.index, ap length c.items_at.ensures, size_data c.as_slice-list.result.now c.standing-place.result.page)

pub returns-clause-member : goal.returns-clause-member
returns-clause-member c =
    let xs = c.as_slice-list.result.now in
    let ps = map page xs in
    let k = c.standing-place.result.page in
    let i = c.standing-place.result.index in
    let m = c.items_at.result.now in
    let v = c.index-items_at-place.result in
    let inside : i < length m = omega (arith, c.standing-place.ensures.index, ap length c.items_at.ensures, size_data xs k) in
    let there : slice_get (page_at ps k) i ≡ Some (datum v) = item_data xs k i v (ap (λ l. slice_get l i) (sym c.items_at.ensures) ∙ item_there m i v inside c.index-items_at-place.is) in
    subst (λ b. slice_get (Members b) c.args.i ≡ Some (datum v)) c.self.view_is
    (ap (λ l. slice_get (joined (map page l)) c.args.i) (sym c.as_slice-list.ensures.value) ∙ ap (slice_get (joined ps)) {x = c.args.i} {y = rank_in ps k i} (omega (arith, c.standing-place.ensures.rank, c.place_behind.ensures.rank)) ∙ item_of ps k i c.standing-place.ensures.index ∙ there)

pub returns-clause-stands : goal.returns-clause-stands
returns-clause-stands c =
    set_at (Members c.args.self.now) c.args.i (datum c.index-items_at-place.result) (subst (λ b. IsSetList (Members b)) c.self.view_is c.self.invariant.members) (returns-clause-member c)
