use Rattle.std.proofs.Common.{◌≡◌, ◌∙◌, ℕ, List, Bool, length, Some, false, get_or, ap, subst}
use Rattle.std.specs.Prelude.{slice_get}
use Rattle.std.proofs.lemmas.Option.{slice_get_within}
use Rattle.setl_live_reads.specs.declared.node.Node.{Node}
use Rattle.setl_live_reads.specs.Blocks.{IsLast}
use Rattle.setl_live_reads.proofs.blocks.into_blocks.Goals as goal

pub returns : goal.returns
returns c = record {
  fits = c.requires.few;
  cut = c.in_ok-firsts.ensures.cut;
  entered = λ at to node is jumps within. c.in_ok-firsts.ensures.entered to within (ap (λ (js : List Bool). get_or js to false) c.deref.ensures.value ∙ c.in_ok-jumped.ensures.jumped at to node (slice_get_within c.args.nodes.now at node is) is jumps within);
  count = c.in_ok-lasts.ensures.sizes ∙ ap length c.deref-2.ensures.value;
  leads = subst (λ (fs : List ℕ). (b : ℕ) (last : Node) → slice_get c.in_ok-lasts.lasts.items b ≡ Some last → IsLast c.args.nodes.now fs c.in_ok-firsts.blocks.items b last) c.deref-2.ensures.value (subst (λ (bs : List ℕ). (b : ℕ) (last : Node) → slice_get c.in_ok-lasts.lasts.items b ≡ Some last → IsLast c.args.nodes.now c.deref-2.result.now bs b last) c.deref-3.ensures.value c.in_ok-lasts.ensures.lasts);
}
