use Rattle.std.proofs.Common.{List, subst}
use Rattle.setl_live_reads.specs.declared.node.Node.{Node}
use Rattle.setl_live_reads.specs.Masks.{Justified, ClosedIn}
use Rattle.setl_live_reads.proofs.Bridging.{tells_settled}
use Rattle.setl_live_reads.proofs.row.sets_in.Goals as goal

pub returns-clause-tells : goal.returns-clause-tells
returns-clause-tells c back known =
    tells_settled c.args.nodes.now c.args.blocks.now.firsts.items c.args.blocks.now.blocks.items c.args.blocks.now.lasts.items c.requires.blocks back c.args.row c.settle.new.masks c.fill.new.gens c.fill.new.passes c.args.low c.args.high c.requires.window.1 (c.fill.ensures.fronts back known)
    (subst (λ (ls : List Node). Justified ls c.fill.new.gens c.fill.new.passes c.args.low c.args.high c.settle.new.masks) c.deref.ensures.value c.settle.ensures.justified) (subst (λ (ls : List Node). ClosedIn ls c.fill.new.gens c.fill.new.passes c.args.low c.args.high c.settle.new.masks) c.deref.ensures.value c.settle.ensures.closed)
