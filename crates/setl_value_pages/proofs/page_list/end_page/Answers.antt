use Rattle.std.proofs.Common.{map}
use Rattle.std.proofs.lemmas.Result.{on_ok_weaker}
use Rattle.setl_value_pages.specs.Pages.{items}
use Rattle.setl_value_pages.proofs.PageLists.{page_added}
use Rattle.setl_value_pages.proofs.page_list.end_page.Goals as goal

pub returns-clause-put : goal.returns-clause-put
returns-clause-put g c = on_ok_weaker c.push_page.result (λ e. page_added (map items c.args.list.now.items) (map items c.push_page.new.list.items) c.args.page.items e) c.push_page.ensures.added
