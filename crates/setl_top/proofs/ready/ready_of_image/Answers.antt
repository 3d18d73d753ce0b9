use Rattle.setl_top.proofs.Readies.{image_ready}
use Rattle.setl_top.proofs.ready.ready_of_image.Goals as goal

pub declared_of-requires : goal.declared_of-requires
declared_of-requires c = c.requires.may_run.0

pub returns : goal.returns
returns c = image_ready c.args.image c.in_ok-declared.declared c.requires c.in_ok-declared.ensures
