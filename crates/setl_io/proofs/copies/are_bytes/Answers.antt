use Rattle.setl_io.proofs.Given.{each_byte}
use Rattle.setl_io.proofs.copies.are_bytes.Goals as goal

pub returns : goal.returns
returns c = each_byte c.args.items.now (λ k. (c.type_inv.items k).fits)
