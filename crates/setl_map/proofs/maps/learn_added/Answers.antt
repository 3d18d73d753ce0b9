use Rattle.setl_value.specs.code.Body.{Members}
use Rattle.setl_value.specs.code.DatumOf.{datum}
use Rattle.setl_map.proofs.Adding.{added_is}
use Rattle.setl_map.proofs.Bounds.{rising_from_set}
use Rattle.setl_map.proofs.PairFacts.{all_pairs}
use Rattle.setl_map.proofs.maps.learn_added.Goals as goal

pub returns : goal.returns
returns c =
    let ds = Members c.args.f.now in
    added_is c.rising_lists_agree.ensures c.tests_are_exact.ensures.membership c.operations_have_their_members.ensures.gather c.operations_have_their_members.ensures.insert (datum c.args.x.now) (datum c.args.y.now) ds (all_pairs ds c.requires)
    (rising_from_set ds c.learn.ensures)
