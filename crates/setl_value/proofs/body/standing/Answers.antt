use Rattle.std.proofs.Common.{◌+◌, arith, ap, ◌∙◌, map}
use Rattle.std.specs.Prelude.{suc}
use Rattle.std.proofs.lemmas.List.{length-map}
use Rattle.setl_value.specs.code.DatumOf.{page}
use Rattle.setl_value_pages.specs.Pages.{rank_in}
use Rattle.setl_value_pages.specs.PageLaws.{page_there, stood}
use Rattle.setl_value.proofs.PagesOfData.{size_data}
use Rattle.setl_value.proofs.body.standing.Goals as goal

pub returns-else-c-size_at-clause-page : goal.returns-else-c-size_at-clause-page
returns-else-c-size_at-clause-page c =
    let ps = map page c.args.list.now in
    omega (arith, length-map c.args.list.now page, (stood ps c.args.c.page c.args.c.index (omega (arith, c.requires.place.1, c.size_at.ensures, size_data c.args.list.now c.args.c.page, c.if-c-size_at.false)) c.requires.there).0)

pub returns-else-c-size_at-clause-index : goal.returns-else-c-size_at-clause-index
returns-else-c-size_at-clause-index c =
    let ps = map page c.args.list.now in
    (page_there ps (c.args.c.page + 1) c.requires.pages (omega (arith, (stood ps c.args.c.page c.args.c.index (omega (arith, c.requires.place.1, c.size_at.ensures, size_data c.args.list.now c.args.c.page, c.if-c-size_at.false)) c.requires.there).0))).0

pub returns-else-c-size_at-clause-rank : goal.returns-else-c-size_at-clause-rank
returns-else-c-size_at-clause-rank c =
    let ps = map page c.args.list.now in
    ap (λ n. rank_in ps n 0) {x = c.args.c.page + 1} {y = suc c.args.c.page} (omega arith) ∙ (stood ps c.args.c.page c.args.c.index (omega (arith, c.requires.place.1, c.size_at.ensures, size_data c.args.list.now c.args.c.page, c.if-c-size_at.false)) c.requires.there).1
