use Rattle.std.proofs.Common.{◌∙◌, take, drop, append_assoc}
use Rattle.std.proofs.lemmas.Result.{on_ok_weaker, on_err_weaker}
use Rattle.setl_value_pages.specs.PageLaws.{unwritten}
use Rattle.setl_value_pages.proofs.PageLists.{written}
use Rattle.setl_value_pages.proofs.PagesFilled.{one_refilled}
use Rattle.setl_value_pages.proofs.page_list.replace_in_page.Goals as goal

pub returns-clause-replaced : goal.returns-clause-replaced
returns-clause-replaced g c =
    let p = c.index_mut-changed.result.now in
    on_ok_weaker c.replace_in.result (λ e.
    written c.args.list.now.items c.args.k c.args.i c.args.j p c.replace_in.new.items c.args.by.items c.requires.there c.index_mut-changed.ensures.value c.requires.place.0 c.requires.place.1
    c.requires.room.0 c.requires.room.1 (e ∙ append_assoc (take c.args.i p.value.items) c.args.by.items (drop c.args.j p.value.items))) c.replace_in.ensures.replaced

pub returns-clause-refused : goal.returns-clause-refused
returns-clause-refused g c =
    on_err_weaker c.replace_in.result (λ e. unwritten c.args.list.now.items c.args.k c.index_mut-changed.result.now c.replace_in.new.items c.requires.there c.index_mut-changed.ensures.value e) c.replace_in.ensures.refused

pub returns-clause-sizes : goal.returns-clause-sizes
returns-clause-sizes g c =
    let p = c.index_mut-changed.result.now in
    on_ok_weaker c.replace_in.result (λ e.
    one_refilled c.args.list.now.items c.args.k c.args.i c.args.j p c.replace_in.new.items c.args.by.items c.requires.there c.index_mut-changed.ensures.value c.requires.place.0 c.requires.place.1
    c.requires.room.0 c.requires.room.1 (e ∙ append_assoc (take c.args.i p.value.items) c.args.by.items (drop c.args.j p.value.items))) c.replace_in.ensures.replaced
