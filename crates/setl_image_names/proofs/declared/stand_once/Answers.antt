use Rattle.setl_image_names.specs.Once.{declared_names}
use Rattle.setl_image_names.proofs.Once.{stand_tells}
use Rattle.setl_image_names.proofs.declared.stand_once.Goals as goal

pub returns : goal.returns
returns c = stand_tells c.args.vars.now c.in_ok-mine.mine c.args.main.now (declared_names c.args.declared.now) c.all_once.result c.in_ok-mine.ensures c.all_once.ensures
