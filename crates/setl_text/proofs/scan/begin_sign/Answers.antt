use Rattle.std.proofs.Common.{refl}
use Rattle.setl_text.proofs.Shallow.{flat_fits}
use Rattle.setl_text.proofs.scan.begin_sign.Goals as goal

pub take_through-requires-clause-fits : goal.take_through-requires-clause-fits
take_through-requires-clause-fits c = flat_fits c.args.opened.now.items 0 refl c.requires.shallow
