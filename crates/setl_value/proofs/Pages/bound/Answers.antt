use Rattle.std.proofs.Common.{arith, ap, ◌∙◌, sym, length, subst, map}
use Rattle.setl_value_pages.specs.Pages.{IsIn, joined, page_at, rank_in}
use Rattle.setl_value.specs.code.Body.{Members}
use Rattle.setl_value.specs.code.DatumOf.{datum, page}
use Rattle.setl_value.specs.Order.{IsRising}
use Rattle.setl_value.specs.code.Places.{HasPlace, IsBound, rank}
use Rattle.setl_value.specs.code.Sought.{sought}
use Rattle.std.proofs.lemmas.List.{length-map}
use Rattle.setl_value.proofs.Bodies.{set_facts}
use Rattle.setl_value.proofs.PageSearch.{bound_in_page, rising_page}
use Rattle.setl_value.proofs.PagesOfData.{page_data, size_data}
use Rattle.setl_value.proofs.Pages.bound.Goals as goal

pub page_in-page-requires-clause-rising : goal.page_in-page-requires-clause-rising
page_in-page-requires-clause-rising c =
    subst (λ l. IsRising (joined (map page l))) (sym c.as_slice-list.ensures.value) (set_facts (joined (map page c.self.inside.list.items)) c.self.invariant.members).1

pub bound_in-requires : goal.bound_in-requires
bound_in-requires c =
    subst IsRising (sym (ap (map datum) c.items_at.ensures ∙ sym (page_data c.as_slice-list.result.now c.page_in-page.result))) (rising_page (map page c.as_slice-list.result.now) c.page_in-page.result (subst (λ l. IsRising (joined (map page l))) (sym c.as_slice-list.ensures.value) (set_facts (joined (map page c.self.inside.list.items)) c.self.invariant.members).1))

pub returns-clause-place : goal.returns-clause-place
unfolding HasPlace
returns-clause-place c =
    let xs = c.as_slice-list.result.now in
    let k = c.page_in-page.result in
    let i = c.bound_in.result in
    let there : IsIn (map page xs) k i = (
      omega (arith, c.page_in-page.ensures.there, length-map xs page),
      omega (arith, c.bound_in.ensures.within, length-map c.items_at.result.now datum, ap length c.items_at.ensures, size_data xs k),
    ) in
    subst (λ b. HasPlace b (record { page = k; index = i })) c.self.view_is (subst (λ l. IsIn (map page l) k i) c.as_slice-list.ensures.value there)

pub returns-clause-bound : goal.returns-clause-bound
unfolding rank
returns-clause-bound c =
    let ps = map page c.as_slice-list.result.now in
    let k = c.page_in-page.result in
    let i = c.bound_in.result in
    let d = sought c.args.what in
    let there : IsBound d (page_at ps k) i = subst (λ l. IsBound d l i) (ap (map datum) c.items_at.ensures ∙ sym (page_data c.as_slice-list.result.now c.page_in-page.result)) c.bound_in.ensures in
    let all : IsBound d (joined ps) (rank_in ps k i) = bound_in_page d ps k i there.within c.page_in-page.ensures.bound there in
    subst (λ b. IsBound d (Members b) (rank b (record { page = k; index = i }))) c.self.view_is (subst (λ l. IsBound d (joined (map page l)) (rank_in (map page l) k i)) c.as_slice-list.ensures.value all)
