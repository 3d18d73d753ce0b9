use Rattle.setl_operators_laws.proofs.Wholes.{added_images_give_values}
use Rattle.setl_operators_laws.proofs.added_images_give_values.Goals as goal

pub returns : goal.returns
returns c = added_images_give_values c.operations_have_their_members.ensures.gather
