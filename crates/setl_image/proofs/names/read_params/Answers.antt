use Rattle.setl_image.proofs.Dependent.{plain_items}
use Rattle.setl_image.proofs.names.read_params.Goals as goal

pub returns : goal.returns
returns c = plain_items c.read_list.result _ c.read_list.ensures
