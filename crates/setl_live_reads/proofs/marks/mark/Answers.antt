use Rattle.std.proofs.Common.{◌≡◌, ◌∙◌, ◌+◌, ◌-◌, ◌≤◌, ℕ, length, get_or, inl, inr, sym, subst, arith}
use Rattle.std.proofs.lemmas.Bool.{cases_lt}
use Rattle.setl_live_reads.specs.Chains.{IsLatest}
use Rattle.setl_live_reads.proofs.Marking.{right_kept}
use Rattle.setl_live_reads.proofs.marks.mark.Goals as goal

pub mark_block-bound-requires-clause-latest : goal.mark_block-bound-requires-clause-latest
mark_block-bound-requires-clause-latest c = (let next : c.window.block ≡ c.window.block - 1 + 1 = omega (arith, c.window-test.true) in subst (λ (b : ℕ). IsLatest c.args.nodes.now c.args.row (get_or c.args.blocks.now.firsts.items b (length c.args.nodes.now)) c.window.bound) next c.window.invariant.latest)

pub window-preserved : goal.window-preserved
window-preserved c = record {
  place = (omega (arith, c.window.invariant.place, c.window-test.true), omega (arith, c.window.invariant.place));
  sizes = c.mark_block-bound.ensures.sizes ∙ c.window.invariant.sizes;
  latest = c.mark_block-bound.ensures.latest;
  right = λ back known tells at x node above below there reads same. elim (cases_lt at (get_or c.args.blocks.now.firsts.items (c.window.block - 1 + 1) (length c.args.nodes.now))) [
    | inl less ↦ c.mark_block-bound.ensures.right back known tells at x node above less there reads same
    | inr more ↦ (
        let later : get_or c.args.blocks.now.firsts.items c.window.block (length c.args.nodes.now) ≤ at = subst (λ (b : ℕ). get_or c.args.blocks.now.firsts.items b (length c.args.nodes.now) ≤ at) next more in
        right_kept c.args.nodes.now back c.window.marks c.mark_block-bound.new.marks at x (c.mark_block-bound.ensures.kept at x node there reads (λ row from to. omega (arith, more, to))) (c.window.invariant.right back known tells at x node later below there reads same))
  ];
  kept = λ at x node there reads out. c.mark_block-bound.ensures.kept at x node there reads (λ row from to. out row) ∙ c.window.invariant.kept at x node there reads out;
}
  where
    next : c.window.block - 1 + 1 ≡ c.window.block
    next = omega (arith, c.window-test.true)

pub returns-clause-right : goal.returns-clause-right
returns-clause-right c back known tells at x node above below there reads same = (let here : c.window.block ≡ c.args.low = omega (arith, c.window.invariant.place, c.window-test.false) in c.window.invariant.right back known tells at x node (subst (λ (b : ℕ). get_or c.args.blocks.now.firsts.items b (length c.args.nodes.now) ≤ at) (sym here) above) below there reads same)
