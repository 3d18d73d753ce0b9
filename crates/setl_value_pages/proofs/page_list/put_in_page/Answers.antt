use Rattle.std.proofs.Common.{arith, [], ◌∷◌}
use Rattle.std.proofs.lemmas.Result.{on_ok_weaker, on_err_weaker}
use Rattle.setl_value_pages.specs.PageLaws.{unwritten}
use Rattle.setl_value_pages.proofs.PageLists.{written}
use Rattle.setl_value_pages.proofs.PageSizes.{written_sizes}
use Rattle.setl_value_pages.proofs.page_list.put_in_page.Goals as goal

pub returns-clause-put : goal.returns-clause-put
returns-clause-put g c =
    on_ok_weaker c.put_in.result (λ e.
    written c.args.list.now.items c.args.k c.args.i c.args.i c.index_mut-changed.result.now c.put_in.new.items (c.args.v ∷ []) c.requires.there c.index_mut-changed.ensures.value (omega arith) c.requires.place
    (omega arith) (omega (arith, c.requires.room, c.requires.place)) e) c.put_in.ensures.put

pub returns-clause-refused : goal.returns-clause-refused
returns-clause-refused g c =
    on_err_weaker c.put_in.result (λ e. unwritten c.args.list.now.items c.args.k c.index_mut-changed.result.now c.put_in.new.items c.requires.there c.index_mut-changed.ensures.value e) c.put_in.ensures.refused

pub returns-clause-sizes : goal.returns-clause-sizes
returns-clause-sizes g c =
    on_ok_weaker c.put_in.result (λ e.
    written_sizes c.args.list.now.items c.args.k c.args.i c.index_mut-changed.result.now c.put_in.new.items c.args.v c.requires.there c.index_mut-changed.ensures.value c.requires.place c.requires.room e) c.put_in.ensures.put
