use Rattle.std.proofs.Common.{◌≡◌, ◌∙◌, ◌*◌, ◌-◌, ◌+◌, ◌++◌, ℕ, List, suc, sym, ap, ap₂, arith}
use Rattle.std.proofs.lemmas.List.{append-nil}
use Rattle.setl_top.specs.Trials.{text_of, edge_lines}
use Rattle.setl_top.proofs.Drawing.{edges_on}
use Rattle.setl_top.proofs.generated.trial_input.Goals as goal

pub loop-i-init : goal.loop-i-init
loop-i-init c =
    let nodes = c.args.nodes in
    let all : 2 * nodes - 0 ≡ 2 * nodes = omega arith in
    ap₂ (λ (xs : List ℕ) (n : ℕ). xs ++ text_of (edge_lines nodes n c.args.seed)) c.new-text.ensures.items all

pub loop-i-preserved : goal.loop-i-preserved
loop-i-preserved c =
    let nodes = c.args.nodes in
    let i = c.loop-i.i in
    let more : 2 * nodes - i ≡ suc (2 * nodes - (i + 1)) = omega (arith, c.loop-i-test.true) in
    edges_on nodes (2 * nodes - i) (2 * nodes - (i + 1)) c.loop-i.x c.in_ok-x.x c.loop-i.text.items c.push_edge.new.text.items _ more c.in_ok-x.ensures.next c.in_ok-x.ensures.line c.loop-i.invariant

pub returns : goal.returns
returns c =
    let nodes = c.args.nodes in
    let text = c.loop-i.text.items in
    let none : 2 * nodes - c.loop-i.i ≡ 0 = omega (arith, c.loop-i-test.false) in
    sym (append-nil text) ∙ ap (λ (n : ℕ). text ++ text_of (edge_lines nodes n c.loop-i.x)) (sym none) ∙ c.loop-i.invariant
