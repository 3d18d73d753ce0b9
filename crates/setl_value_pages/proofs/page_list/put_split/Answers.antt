use Rattle.std.proofs.Common.{ap, map, ◌∙◌, take, drop, ◌++◌, ◌∷◌, []}
use Rattle.std.proofs.lemmas.Result.{on_ok_weaker}
use Rattle.setl_value_pages.specs.Pages.{items, page_at}
use Rattle.setl_value_pages.proofs.PageLists.{rebuilt}
use Rattle.setl_value_pages.proofs.PageSizes.{halved_sizes}
use Rattle.setl_value_pages.proofs.page_list.put_split.Goals as goal

pub returns-clause-put : goal.returns-clause-put
returns-clause-put g c =
    let xs = c.args.list.now.items in
    let k = c.args.k in
    let i = c.args.i in
    on_ok_weaker c.replace_between.result (λ e. rebuilt xs c.in_ok-two.two.items c.replace_between.new.list.items k i k i (c.args.v ∷ []) c.in_ok-two.ensures.pages (c.in_ok-two.ensures.all ∙ ap (λ m. take i m ++ c.args.v ∷ drop i m) (c.items_at.ensures ∙ ap (λ l. page_at (map items l) k) c.deref.ensures.value)) e) c.replace_between.ensures.replaced

pub returns-clause-sizes : goal.returns-clause-sizes
returns-clause-sizes g c =
    on_ok_weaker c.replace_between.result (λ e. halved_sizes c.args.list.now.items c.in_ok-two.two.items c.replace_between.new.list.items c.args.k c.requires.there c.requires.full c.in_ok-two.ensures.sizes e) c.replace_between.ensures.replaced
