use Rattle.setl_image_names.proofs.NewNames.{key_new}
use Rattle.setl_image_names.proofs.differing.put.Goals as goal

pub returns-clause-new : goal.returns-clause-new
returns-clause-new c n = key_new n (c.args.former, c.args.name) c.args.seen.now.keys c.in_ok-insert.field-0 c.in_ok-insert.ensures.added
