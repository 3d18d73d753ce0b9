use Rattle.setl_value_pages.proofs.PagesFilled.{filled_ends}
use Rattle.setl_value_pages.proofs.page_list.paged.Goals as goal

pub returns-clause-filled : goal.returns-clause-filled
returns-clause-filled g c = filled_ends c.args.most _ _ _ c.loop-v.invariant.1 c.loop-v.invariant.2 c.in_ok-end_page-2.ensures.ended
