use Rattle.std.proofs.Common.{◌≡◌, ◌∙◌, ℕ, List, length, get_or, sym, subst, arith}
use Rattle.setl_live_reads.specs.Chains.{IsLatest}
use Rattle.setl_live_reads.specs.Masks.{TellsReads}
use Rattle.setl_live_reads.proofs.Bridging.{tells_all}
use Rattle.setl_live_reads.proofs.Windows.{item_read, latest_whole, covers_whole}
use Rattle.setl_live_reads.proofs.row.sets.Goals as goal

pub window-low-requires-clause-spanned : goal.window-low-requires-clause-spanned
window-low-requires-clause-spanned c at slot node small is names within = c.requires.spanned at slot node small is names (omega (arith, within, c.requires.spans))

pub sets_in-requires-clause-latest : goal.sets_in-requires-clause-latest
sets_in-requires-clause-latest c =
    let read = item_read c.args.chains.now.latest.items c.args.row c.index.result.now c.requires.row c.index.ensures in
    subst (λ (l : ℕ). IsLatest c.args.nodes.now c.args.row (get_or c.args.blocks.now.firsts.items c.window-low.result.1 (length c.args.nodes.now)) l) read (c.window-low.ensures.latest (get_or c.args.chains.now.latest.items c.args.row 0) (c.requires.chains c.args.row c.requires.row).0)

pub returns-then-high-low-clause-tells : goal.returns-then-high-low-clause-tells
returns-then-high-low-clause-tells c back known =
    let low : c.window-low.result.0 ≡ 0 = omega (arith, c.if-high-low.true, c.window-low.ensures.within, c.len-count.ensures) in
    let high : c.window-low.result.1 ≡ length c.args.blocks.now.firsts.items = omega (arith, c.if-high-low.true, c.window-low.ensures.within, c.len-count.ensures) in
    subst (λ (l : ℕ). TellsReads c.args.nodes.now back c.args.row c.args.blocks.now.firsts.items c.args.blocks.now.lasts.items l (length c.args.blocks.now.firsts.items) c.sets_in.new.masks) low
    (subst (λ (h : ℕ). TellsReads c.args.nodes.now back c.args.row c.args.blocks.now.firsts.items c.args.blocks.now.lasts.items c.window-low.result.0 h c.sets_in.new.masks) high (c.sets_in.ensures.tells back known))

pub returns-then-at-eq0-clause-latest : goal.returns-then-at-eq0-clause-latest
returns-then-at-eq0-clause-latest c = c.window-low.ensures.latest (get_or c.args.chains.now.latest.items c.args.row 0) (c.requires.chains c.args.row c.requires.row).0

pub returns-then-at-eq0-clause-tells : goal.returns-then-at-eq0-clause-tells
returns-then-at-eq0-clause-tells c back known =
    tells_all c.args.nodes.now c.args.blocks.now.firsts.items c.args.blocks.now.blocks.items c.args.blocks.now.lasts.items c.requires.blocks back c.args.row c.sets_in.new.masks c.window-low.result.0 c.window-low.result.1 c.window-low.ensures.within.0 c.window-low.ensures.apart (c.window-low.ensures.covers back known) c.sets_in.ensures.outside
    (sym c.at.ensures ∙ c.if-at-eq0.true) (c.sets_in.ensures.tells back known)

pub sets_in-requires-2-clause-chained : goal.sets_in-requires-2-clause-chained
sets_in-requires-2-clause-chained c at node small is here = subst (λ (xs : List ℕ). IsLatest c.args.nodes.now c.args.row at (get_or xs at 0)) (sym c.deref-2.ensures.value) ((c.requires.chains c.args.row c.requires.row).1 at node small is here)

pub sets_in-requires-2-clause-latest : goal.sets_in-requires-2-clause-latest
sets_in-requires-2-clause-latest c =
    let read = item_read c.args.chains.now.latest.items c.args.row c.index.result.now c.requires.row c.index.ensures in
    subst (λ (l : ℕ). IsLatest c.args.nodes.now c.args.row (get_or c.args.blocks.now.firsts.items c.len-count.result (length c.args.nodes.now)) l) read
    (latest_whole c.args.nodes.now c.args.blocks.now.firsts.items c.args.blocks.now.blocks.items c.args.blocks.now.lasts.items c.requires.blocks c.args.row c.len-count.result (omega (arith, c.len-count.ensures)) (get_or c.args.chains.now.latest.items c.args.row 0) (c.requires.chains c.args.row c.requires.row).0)

pub returns-clause-covers : goal.returns-clause-covers
returns-clause-covers c back known = covers_whole c.args.nodes.now c.args.blocks.now.firsts.items c.args.blocks.now.blocks.items c.args.blocks.now.lasts.items c.requires.blocks c.args.row c.len-count.result (omega (arith, c.len-count.ensures)) back
