use Rattle.std.proofs.Common.{◌≡◌, ◌∙◌, ◌++◌, ap, sym, subst}
use Rattle.std.specs.Prelude.{OnOk}
use Rattle.setl_modes_dump.specs.Dump.{listed}
use Rattle.setl_rep_layout.specs.Texts.{after_blanks, decimals}
use Rattle.setl_rep_layout.proofs.Members.{numbers_listed}
use Rattle.setl_rep_layout.proofs.sets.push_numbers.Goals as goal

pub returns : goal.returns
returns c =
    let list = c.in_ok-list.list.items in
    let e = numbers_listed c.numbers_stand_for_members.ensures.tested c.args.base.now c.args.table.now list c.learn.ensures c.requires c.in_ok-list.ensures.rising c.in_ok-list.ensures.members in
    subst (λ l. OnOk c.push_list.result (c.push_list.new.into.items ≡ c.args.into.now.items ++ after_blanks (listed l))) (ap decimals c.as_slice.ensures.value ∙ sym e) c.push_list.ensures
