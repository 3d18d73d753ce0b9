use Rattle.setl_value.specs.Datum.{depth}
use Rattle.setl_value.specs.code.DatumOf.{datum}
use Rattle.setl_text.proofs.Shallow.{flat_fits}
use Rattle.setl_text.proofs.scan.begin_behind.Goals as goal

pub place-requires-clause-fits : goal.place-requires-clause-fits
place-requires-clause-fits c = flat_fits c.args.opened.now.items (depth (datum c.args.v)) c.requires.flat c.requires.shallow
