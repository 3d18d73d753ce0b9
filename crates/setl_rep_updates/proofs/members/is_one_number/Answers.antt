use Rattle.std.proofs.Common.{◌∙◌, ◌==◌, sym, ap}
use Rattle.setl_rep_bases.specs.Bases.{base_at}
use Rattle.setl_rep_based.specs.Numbers.{numbers_in}
use Rattle.setl_rep_updates.proofs.Removing.{members_of_list}
use Rattle.setl_rep_updates.proofs.members.is_one_number.Goals as goal

pub returns-in_ok-numbers-in-Table : goal.returns-in_ok-numbers-in-Table
returns-in_ok-numbers-in-Table c =
    let list = c.in_ok-numbers-in-Table in
    ap (λ n. n == 1)
    (c.len.ensures
    ∙ list.field-0.ok.0
    ∙ members_of_list c.numbers_stand_for_members.ensures.count (base_at c.args.bases.now c.args.b) (numbers_in c.args.numbers) list.field-0.items c.at-base.ensures.known c.requires.living list.ensures.rising (list.ensures.members ∙ sym (ap numbers_in c.in-Table.is)))
