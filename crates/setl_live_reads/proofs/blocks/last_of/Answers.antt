use Rattle.std.proofs.Common.{◌≡◌, ◌∙◌, ◌+◌, ◌-◌, ◌<◌, ℕ, length, get_or, Some, ap, arith}
use Rattle.std.proofs.lemmas.Option.{get_or_from_slice_get}
use Rattle.std.specs.Prelude.{slice_get}
use Rattle.setl_live_reads.specs.declared.node.Node.{Node}
use Rattle.setl_live_reads.specs.Blocks.{in_blocks}
use Rattle.setl_live_reads.proofs.Straight.{no_step}
use Rattle.setl_live_reads.proofs.Cutting.{first_within}
use Rattle.setl_live_reads.proofs.blocks.last_of.Goals as goal

pub bounds-nodes-end : goal.bounds-nodes-end
bounds-nodes-end c = omega (arith, c.first_of-end.ensures, c.requires.cut.rising c.args.block c.requires.block, first_within c.args.nodes.now c.args.firsts.now c.args.blocks.now c.requires.cut (c.args.block + 1))

pub offset_bounds-nodes-end : goal.offset_bounds-nodes-end
offset_bounds-nodes-end c =
    let within : c.first_of-end.result - 1 < length c.args.nodes.now = omega (arith, c.first_of-end.ensures, c.requires.cut.rising c.args.block c.requires.block, first_within c.args.nodes.now c.args.firsts.now c.args.blocks.now c.requires.cut (c.args.block + 1)) in
    omega (arith, within, c.requires.few)

pub returns : goal.returns
returns c node is =
    let there : slice_get c.args.nodes.now (c.first_of-end.result - 1) ≡ Some node = ap (λ (e : ℕ). slice_get c.args.nodes.now (e - 1)) c.first_of-end.ensures ∙ is in
    let same : get_or c.args.nodes.now (c.first_of-end.result - 1) no_step ≡ node = get_or_from_slice_get c.args.nodes.now (c.first_of-end.result - 1) node no_step there in
    (ap (λ (m : Node). m.access) same, c.way_in_blocks.ensures ∙ ap (λ (m : Node). in_blocks c.args.blocks.now m.way) same)
