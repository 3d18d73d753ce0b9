use Rattle.std.proofs.Common.{refl}
use Rattle.std.proofs.lemmas.Option.{IfSome_then}
use Rattle.std.proofs.lemmas.Result.{IfOk-weaker}
use Rattle.setl_value_pages.specs.ListLaws.{item_there}
use Rattle.setl_value.proofs.Changing.{none_then}
use Rattle.setl_value.proofs.second.change_item.Goals as goal

pub change_pair-requires-clause-grows : goal.change_pair-requires-clause-grows
change_pair-requires-clause-grows g c = c.requires.grows c.index_mut.result.now (item_there c.args.members.now.items c.args.i c.index_mut.result.now c.requires.member c.index_mut.ensures.value)

pub returns-clause-changed : goal.returns-clause-changed
returns-clause-changed g c =
    let there = item_there c.args.members.now.items c.args.i c.index_mut.result.now c.requires.member c.index_mut.ensures.value in
    IfOk-weaker c.change_pair.result _ _ (λ o h. IfSome_then o h (λ r m. (c.index_mut.result.now, c.change_pair.new.member, there, m, refl))) c.change_pair.ensures.changed

pub returns-clause-nothing : goal.returns-clause-nothing
returns-clause-nothing g c =
    let there = item_there c.args.members.now.items c.args.i c.index_mut.result.now c.requires.member c.index_mut.ensures.value in
    IfOk-weaker c.change_pair.result _ _ (λ o h. none_then o (λ n. (c.index_mut.result.now, there, n)) h) c.change_pair.ensures.nothing
