use Rattle.std.proofs.Common.{ap, ◌∙◌, map, ◌++◌, take, drop, append_assoc}
use Rattle.std.proofs.lemmas.Result.{on_ok_weaker}
use Rattle.setl_value_pages.specs.Pages.{items, page_at}
use Rattle.setl_value_pages.proofs.PageLists.{rebuilt}
use Rattle.setl_value_pages.proofs.PagesFilled.{refilled}
use Rattle.setl_value_pages.proofs.page_list.replace_whole.Goals as goal

pub returns-clause-replaced : goal.returns-clause-replaced
returns-clause-replaced g c =
    let xs = c.args.list.now.items in
    let ms = c.args.by.items in
    let head = c.front.ensures ∙ ap (λ l. take c.args.from.1 (page_at (map items l) c.args.from.0)) c.deref.ensures.value in
    let tail = c.items_from.ensures ∙ ap (λ l. drop c.args.to.1 (page_at (map items l) c.args.to.0)) c.deref-2.ensures.value in
    on_ok_weaker c.replace_between.result (λ e. rebuilt xs c.in_ok-pages.pages.items c.replace_between.new.list.items c.args.from.0 c.args.from.1 c.args.to.0 c.args.to.1 ms c.in_ok-pages.ensures.pages
    (c.in_ok-pages.ensures.all ∙ (λ k. head k ++ ms ++ tail k) ∙ append_assoc (take c.args.from.1 (page_at (map items xs) c.args.from.0)) ms (drop c.args.to.1 (page_at (map items xs) c.args.to.0))) e) c.replace_between.ensures.replaced

pub returns-clause-sizes : goal.returns-clause-sizes
returns-clause-sizes g c =
    on_ok_weaker c.replace_between.result (λ e.
    refilled c.args.list.now.items c.in_ok-pages.pages.items c.replace_between.new.list.items c.args.from.0 c.args.to.0 c.requires.there.1 c.in_ok-pages.ensures.filled e) c.replace_between.ensures.replaced
