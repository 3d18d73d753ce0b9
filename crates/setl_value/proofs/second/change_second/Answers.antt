use Rattle.std.proofs.lemmas.Option.{IfSome_then}
use Rattle.std.proofs.lemmas.Result.{IfOk-weaker, on_err_weaker}
use Rattle.setl_value.specs.code.DatumOf.{datum}
use Rattle.setl_value.proofs.Changing.{member_was, member_written, none_then}
use Rattle.setl_value.proofs.PagesOfData.{unwritten}
use Rattle.setl_value.proofs.second.change_second.Goals as goal

pub change_member-requires-clause-grows : goal.change_member-requires-clause-grows
change_member-requires-clause-grows g c = λ v h.
    c.requires.grows (datum v) (member_was c.args.list.now.items c.args.k c.args.i c.index_mut-changed.result.now c.requires.there c.index_mut-changed.ensures.value v h)

pub returns-clause-changed : goal.returns-clause-changed
returns-clause-changed g c =
    let xs = c.args.list.now.items in
    let p = c.index_mut-changed.result.now in
    let lent = c.index_mut-changed.ensures.value in
    IfOk-weaker c.change_member.result _ _ (λ o h. IfSome_then o h (λ r m. (
      datum m.0,
      datum m.1,
      member_was xs c.args.k c.args.i p c.requires.there lent m.0 m.2,
      m.3,
      member_written xs c.args.k c.args.i p c.requires.there lent c.change_member.new.shared m.1 m.4,
    ))) c.change_member.ensures.changed

pub returns-clause-nothing : goal.returns-clause-nothing
returns-clause-nothing g c =
    IfOk-weaker c.change_member.result _ _ (λ o h. none_then o (λ n. (
      datum n.0,
      member_was c.args.list.now.items c.args.k c.args.i c.index_mut-changed.result.now c.requires.there c.index_mut-changed.ensures.value n.0 n.1,
      n.2,
    )) h) c.change_member.ensures.nothing

pub returns-clause-unchanged : goal.returns-clause-unchanged
returns-clause-unchanged g c =
    IfOk-weaker c.change_member.result _ _ (λ o h. none_then o (λ e.
    unwritten c.args.list.now.items c.args.k c.index_mut-changed.result.now c.change_member.new.shared c.requires.there c.index_mut-changed.ensures.value e) h) c.change_member.ensures.unchanged

pub returns-clause-refused : goal.returns-clause-refused
returns-clause-refused g c =
    on_err_weaker c.change_member.result (λ e. unwritten c.args.list.now.items c.args.k c.index_mut-changed.result.now c.change_member.new.shared c.requires.there c.index_mut-changed.ensures.value e) c.change_member.ensures.refused
