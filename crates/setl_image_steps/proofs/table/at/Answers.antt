use Rattle.std.proofs.Common.{length, refl, sym}
use Rattle.std.proofs.lemmas.Option.{slice_get_read, slice_get_past}
use Rattle.setl_image_steps.proofs.table.at.Goals as goal

pub returns-then-k-all : goal.returns-then-k-all
returns-then-k-all g c = sym (slice_get_read c.args.all.now (length c.args.all.now) c.args.k c.index-all-k.result refl c.if-k-all.true c.index-all-k.is)

pub returns-else-k-all : goal.returns-else-k-all
returns-else-k-all g c = sym (slice_get_past c.args.all.now c.args.k c.if-k-all.false)
