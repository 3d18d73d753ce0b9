use Rattle.std.proofs.Common.{◌≡◌, ◌∙◌, ◌+◌, ◌-◌, ◌<◌, ℕ, List, length, get_or, slice_set, inl, inr, sym, ap, subst, arith}
use Rattle.std.proofs.lemmas.Bool.{cases_eq}
use Rattle.std.specs.Prelude.{slice_get}
use Rattle.std.proofs.lemmas.List.{length-set}
use Rattle.setl_live_reads.specs.Fronts.{HasFronts}
use Rattle.setl_live_reads.proofs.Cutting.{last_access, block_bounds}
use Rattle.setl_live_reads.proofs.Filling.{fronts_here, fronts_other}
use Rattle.setl_live_reads.proofs.fronts.fill.Goals as goal

pub fronts-read-requires-clause-block : goal.fronts-read-requires-clause-block
fronts-read-requires-clause-block c =
    let less : c.window.block - 1 < length c.args.blocks.now.firsts.items = omega (arith, c.window.invariant.place, c.window-test.true, c.requires.window) in
    let bounds = block_bounds c.args.nodes.now c.args.blocks.now.firsts.items c.args.blocks.now.blocks.items c.args.blocks.now.lasts.items c.requires.blocks (c.window.block - 1) less in
    let next : c.window.block ≡ c.window.block - 1 + 1 = omega (arith, c.window-test.true) in
    let end = ap (λ (b : ℕ). get_or c.args.blocks.now.firsts.items b (length c.args.nodes.now)) next in
    let first = ap (λ (xs : List ℕ). get_or xs (c.window.block - 1) (length c.args.nodes.now)) c.deref-in-window.ensures.value in
    (omega (arith, bounds.0, end, first, c.window.invariant.end, c.first_of-first.ensures), omega (arith, bounds.1, end, c.window.invariant.end))

pub fronts-read-requires-clause-last : goal.fronts-read-requires-clause-last
fronts-read-requires-clause-last c node is =
    let less : c.window.block - 1 < length c.args.blocks.now.firsts.items = omega (arith, c.window.invariant.place, c.window-test.true, c.requires.window) in
    let next : c.window.block ≡ c.window.block - 1 + 1 = omega (arith, c.window-test.true) in
    let end = c.window.invariant.end ∙ ap (λ (b : ℕ). get_or c.args.blocks.now.firsts.items b (length c.args.nodes.now)) next in
    last_access c.args.nodes.now c.args.blocks.now.firsts.items c.args.blocks.now.blocks.items c.args.blocks.now.lasts.items c.requires.blocks (c.window.block - 1) less c.index.result.now c.index.ensures node (ap (λ (e : ℕ). slice_get c.args.nodes.now (e - 1)) (sym end) ∙ is)

pub window-preserved : goal.window-preserved
window-preserved c = record {
  place = (omega (arith, c.window.invariant.place, c.window-test.true), omega (arith, c.window.invariant.place));
  sizes = (length-set c.window.gens (c.window.block - 1) c.fronts-read.result.0 ∙ c.window.invariant.sizes.0, length-set c.window.passes (c.window.block - 1) c.fronts-read.result.1 ∙ c.window.invariant.sizes.1);
  end = first;
  latest = c.fronts-read.ensures.latest;
  fronts = λ back known b low small. elim (cases_eq b (c.window.block - 1)) [
    | inl same ↦ subst (λ (e : ℕ). HasFronts c.args.nodes.now back c.args.row c.args.blocks.now.firsts.items (slice_set c.window.gens (c.window.block - 1) c.fronts-read.result.0) (slice_set c.window.passes (c.window.block - 1) c.fronts-read.result.1) e) (sym same) (fronts_here c.args.nodes.now back c.args.row c.args.blocks.now.firsts.items c.window.gens c.window.passes (c.window.block - 1) c.fronts-read.result.0 c.fronts-read.result.1 (omega (arith, less, c.window.invariant.sizes, c.requires.gens)) (omega (arith, less, c.window.invariant.sizes, c.requires.passes)) c.first_of-first.result c.window.end first end (c.fronts-read.ensures.reads back known) (c.fronts-read.ensures.passes back known))
    | inr other ↦ (let more : c.window.block < b + 1 = omega arith in fronts_other c.args.nodes.now back c.args.row c.args.blocks.now.firsts.items c.window.gens c.window.passes (c.window.block - 1) c.fronts-read.result.0 c.fronts-read.result.1 b other (c.window.invariant.fronts back known b (omega arith) small))
  ];
}
  where
    less : c.window.block - 1 < length c.args.blocks.now.firsts.items
    less = omega (arith, c.window.invariant.place, c.window-test.true, c.requires.window)

    next : c.window.block ≡ c.window.block - 1 + 1
    next = omega (arith, c.window-test.true)

    end : c.window.end ≡ get_or c.args.blocks.now.firsts.items (c.window.block - 1 + 1) (length c.args.nodes.now)
    end = c.window.invariant.end ∙ ap (λ (b : ℕ). get_or c.args.blocks.now.firsts.items b (length c.args.nodes.now)) next

    first : c.first_of-first.result ≡ get_or c.args.blocks.now.firsts.items (c.window.block - 1) (length c.args.nodes.now)
    first = c.first_of-first.ensures ∙ ap (λ (xs : List ℕ). get_or xs (c.window.block - 1) (length c.args.nodes.now)) c.deref-in-window.ensures.value

pub returns-clause-fronts : goal.returns-clause-fronts
returns-clause-fronts c back known b low small = c.window.invariant.fronts back known b (omega (arith, low, c.window-test.false)) small
