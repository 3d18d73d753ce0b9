use Rattle.std.proofs.Common.{arith, ap, ◌∙◌, ◌++◌, [], take, drop, ◌+◌}
use Rattle.std.specs.Prelude.{suc}
use Rattle.std.proofs.lemmas.Result.{on_ok_weaker, on_err_weaker}
use Rattle.setl_value_pages.specs.PageLaws.{unwritten}
use Rattle.setl_value_pages.proofs.PageLists.{written}
use Rattle.setl_value_pages.proofs.PagesFilled.{cut_sizes}
use Rattle.setl_value_pages.proofs.page_list.cut_from_page.Goals as goal

pub returns-clause-cut : goal.returns-clause-cut
returns-clause-cut g c =
    let p = c.index_mut-changed.result.now in
    on_ok_weaker c.cut_in.result (λ e.
    written c.args.list.now.items c.args.k c.args.i (c.args.i + 1) p c.cut_in.new.items [] c.requires.there c.index_mut-changed.ensures.value (omega arith) (omega (arith, c.requires.item))
    (omega (arith, c.requires.others.0, c.requires.item)) (omega (arith, c.requires.others.1, c.requires.item))
    (e ∙ ap (λ n. take c.args.i p.value.items ++ drop n p.value.items) {x = suc c.args.i} {y = c.args.i + 1} (omega arith))) c.cut_in.ensures.cut

pub returns-clause-refused : goal.returns-clause-refused
returns-clause-refused g c =
    on_err_weaker c.cut_in.result (λ e. unwritten c.args.list.now.items c.args.k c.index_mut-changed.result.now c.cut_in.new.items c.requires.there c.index_mut-changed.ensures.value e) c.cut_in.ensures.refused

pub returns-clause-sizes : goal.returns-clause-sizes
returns-clause-sizes g c =
    on_ok_weaker c.cut_in.result (λ e.
    cut_sizes c.args.list.now.items c.args.k c.args.i c.index_mut-changed.result.now c.cut_in.new.items c.requires.there c.index_mut-changed.ensures.value c.requires.item c.requires.others.0 e) c.cut_in.ensures.cut
