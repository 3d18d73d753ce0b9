use Rattle.std.proofs.Common.{◌∙◌, ◌+◌, ◌-◌, ℕ, List, length, get_or, refl, sym, ap, subst, arith}
use Rattle.std.proofs.lemmas.Option.{slice_get_read}
use Rattle.std.specs.Prelude.{slice_get}
use Rattle.setl_live_reads.proofs.Cutting.{last_access, block_bounds}
use Rattle.setl_live_reads.proofs.Marking.{IsMarked, block_right}
use Rattle.setl_live_reads.proofs.marks.mark_block.Goals as goal

pub mark_steps-requires-clause-block : goal.mark_steps-requires-clause-block
mark_steps-requires-clause-block c =
    let bounds = block_bounds c.args.nodes.now c.args.blocks.now.firsts.items c.args.blocks.now.blocks.items c.args.blocks.now.lasts.items c.requires.blocks c.args.block c.requires.block in
    let first = c.first_of-first.ensures ∙ ap (λ (xs : List ℕ). get_or xs c.args.block (length c.args.nodes.now)) c.deref.ensures.value in
    let end = c.first_of-end.ensures ∙ ap (λ (xs : List ℕ). get_or xs (c.args.block + 1) (length c.args.nodes.now)) c.deref-2.ensures.value in
    (omega (arith, bounds.0, first, end), omega (arith, bounds.1, end))

pub mark_steps-requires-clause-last : goal.mark_steps-requires-clause-last
mark_steps-requires-clause-last c node is =
    let end = c.first_of-end.ensures ∙ ap (λ (xs : List ℕ). get_or xs (c.args.block + 1) (length c.args.nodes.now)) c.deref-2.ensures.value in
    last_access c.args.nodes.now c.args.blocks.now.firsts.items c.args.blocks.now.blocks.items c.args.blocks.now.lasts.items c.requires.blocks c.args.block c.requires.block c.index-last.result.now c.index-last.ensures node (ap (λ (e : ℕ). slice_get c.args.nodes.now (e - 1)) (sym end) ∙ is)

pub returns-clause-right : goal.returns-clause-right
returns-clause-right c back known tells at x node above below there reads same =
    let first = c.first_of-first.ensures ∙ ap (λ (xs : List ℕ). get_or xs c.args.block (length c.args.nodes.now)) c.deref.ensures.value in
    let end = c.first_of-end.ensures ∙ ap (λ (xs : List ℕ). get_or xs (c.args.block + 1) (length c.args.nodes.now)) c.deref-2.ensures.value in
    let mark = subst (λ (e : ℕ). IsMarked c.args.nodes.now back x e c.at-next.result c.behind-out.result c.mark_steps.new.marks at) end (c.mark_steps.ensures.there back known at x node (omega (arith, above, first)) (omega (arith, below, end)) there reads same) in
    block_right c.args.nodes.now c.args.blocks.now.firsts.items c.args.blocks.now.blocks.items c.args.blocks.now.lasts.items c.requires.blocks back c.args.row c.args.masks.now tells c.args.block c.requires.block c.index-last.result.now
    (slice_get_read c.args.blocks.now.lasts.items (length c.args.blocks.now.lasts.items) c.args.block c.index-last.result.now refl (omega (arith, c.requires.block, c.requires.blocks.count)) c.index-last.ensures) c.at-next.result c.behind-out.result c.at-next.ensures c.behind-out.ensures.all c.behind-out.ensures.only c.mark_steps.new.marks at x above below same mark
