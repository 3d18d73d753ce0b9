use Rattle.setl_value.specs.code.Body.{Members}
use Rattle.setl_value.specs.code.DatumOf.{datum}
use Rattle.setl_machine_updates.proofs.Removing.{removed_is, rising_from_set}
use Rattle.setl_machine_updates.proofs.one_image.learn_removed.Goals as goal

pub returns : goal.returns
returns c =
    let ds = Members c.args.f.now in
    removed_is c.rising_lists_agree.ensures c.tests_are_exact.ensures.membership c.operations_have_their_members.ensures.union (datum c.args.x.now) (datum c.args.y.now) ds c.requires (rising_from_set ds c.learn.ensures)
