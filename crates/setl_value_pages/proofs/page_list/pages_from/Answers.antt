use Rattle.std.proofs.Common.{arith, ◌∙◌}
use Rattle.std.proofs.lemmas.List.{take_rest}
use Rattle.setl_value_pages.specs.ListLaws.{drop_capped}
use Rattle.setl_value_pages.proofs.page_list.pages_from.Goals as goal

pub returns : goal.returns
returns g c = take_rest c.args.list.now c.min.result ∙ drop_capped c.args.list.now c.args.k c.min.result (omega (arith, c.min.ensures))
