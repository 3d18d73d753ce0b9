use Rattle.std.proofs.Common.{ap, length}
use Rattle.setl_store_iterator.proofs.Ends.{set_ends, tuple_ends, text_ends}
use Rattle.setl_store_iterator.proofs.rests.is_over.Goals as goal

pub returns-in-Letters : goal.returns-in-Letters
returns-in-Letters c = text_ends c.args.rest.now c.in-Letters.t c.in-Letters.at (length c.bytes.result.now) (ap length c.bytes.ensures) c.in-Letters.is

pub returns-in-Components : goal.returns-in-Components
returns-in-Components c = tuple_ends c.args.rest.now c.in-Components.t c.in-Components.at c.len.result c.len.ensures c.in-Components.is

pub returns-in-Members : goal.returns-in-Members
returns-in-Members c = set_ends c.args.rest.now c.in-Members.s c.in-Members.at c.len-in-Members.result c.requires c.len-in-Members.ensures c.in-Members.is
