use Rattle.setl_value_pages.specs.Pages.{items}
use Rattle.setl_value_pages.specs.ListLaws.{map-remove}
use Rattle.setl_value_pages.proofs.PageLists.{no_page}
use Rattle.setl_value_pages.proofs.PagesFilled.{sizes_left}
use Rattle.setl_value_pages.specs.Exchange.{page_sizes}
use Rattle.std.proofs.lemmas.List.{length-map}
use Rattle.std.proofs.Common.{arith, ap, ◌∙◌, map}
use Rattle.setl_value_pages.proofs.page_list.cut_alone.Goals as goal

pub returns-clause-cut : goal.returns-clause-cut
returns-clause-cut g c = no_page c.requires.alone (ap (map items) c.remove-gone.ensures.items ∙ map-remove items c.args.list.now.items c.args.k)

pub returns-clause-sizes : goal.returns-clause-sizes
returns-clause-sizes g c =
    ap page_sizes (ap (map items) c.remove-gone.ensures.items ∙ map-remove items c.args.list.now.items c.args.k)
    ∙ sizes_left (map items c.args.list.now.items) c.args.k (omega (arith, c.requires.there, length-map c.args.list.now.items items)) c.requires.alone
