use Rattle.std.proofs.Common.{◌∙◌, sym}
use Rattle.setl_live_reads.proofs.Bits.{slot_there, slot_only, slot_passed}
use Rattle.setl_live_reads.proofs.row.with_handed.Goals as goal

pub returns-then-not-is_handed-clause-there : goal.returns-then-not-is_handed-clause-there
returns-then-not-is_handed-clause-there c before i small is = slot_passed c.args.back.now c.args.base c.args.k c.args.handed (sym c.is_handed.ensures ∙ c.if-not-is_handed.true) before i small is

pub returns-clause-there : goal.returns-clause-there
returns-clause-there c before i small is = slot_there c.args.back.now c.args.base c.args.k c.args.handed c.requires before i small is

pub returns-clause-only : goal.returns-clause-only
returns-clause-only c before i small has = slot_only c.args.back.now c.args.base c.args.k c.args.handed c.requires (sym c.is_handed.ensures ∙ c.if-not-is_handed.false) before i small has
