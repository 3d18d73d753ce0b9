use Rattle.std.proofs.Common.{◌≡◌, ◌+◌, arith, ap, ◌∙◌, sym, subst, map, ◌++◌, drop}
use Rattle.std.specs.Prelude.{suc}
use Rattle.std.specs.List.{AllByRecursion}
use Rattle.std.proofs.lemmas.List.{drop-map}
use Rattle.setl_value_pages.specs.Pages.{IsPage, items, joined, page_at}
use Rattle.setl_value.specs.code.DatumOf.{datum, page}
use Rattle.setl_value_pages.specs.ListLaws.{all_drop}
use Rattle.setl_value_pages.specs.PageLaws.{dropped}
use Rattle.setl_value.proofs.PagesOfData.{page_data, size_data}
use Rattle.setl_value.proofs.body.members_behind.Goals as goal

pub items_from-requires : goal.items_from-requires
items_from-requires c = omega (arith, size_data c.args.list.now c.args.c.page, c.requires.place.1)

pub invariant_of-result : goal.invariant_of-result
invariant_of-result c =
    let k = c.args.c.page + 1 in
    let ps = map page c.args.list.now in
    subst (AllByRecursion IsPage) (sym (ap (map page) c.pages_from.ensures ∙ sym (drop-map page k c.args.list.now))) (all_drop IsPage ps k c.requires.pages)

pub returns : goal.returns
returns c =
    let k = c.args.c.page + 1 in
    let ps = map page c.args.list.now in
    let left : map page c.pages_from.result.now ≡ drop (suc c.args.c.page) ps =
    ap (map page) c.pages_from.ensures ∙ sym (drop-map page k c.args.list.now) ∙ ap (λ n. drop n ps) {x = k} {y = suc c.args.c.page} (omega arith) in
    let here : map datum c.items_from.result.now ≡ drop c.args.c.index (page_at ps c.args.c.page) =
    ap (map datum) c.items_from.ensures ∙ sym (drop-map datum c.args.c.index (page_at (map items c.args.list.now) c.args.c.page)) ∙ ap (drop c.args.c.index) (sym (page_data c.args.list.now c.args.c.page)) in
    (λ n. here n ++ joined (left n)) ∙ sym (dropped ps c.args.c.page c.args.c.index c.requires.place.1)
