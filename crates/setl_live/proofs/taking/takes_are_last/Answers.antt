use Rattle.std.proofs.Common.{◌≡◌, ◌∙◌, ◌<◌, ◌+◌, ℕ, List, Bool, true, false, map, length, Some, refl, sym, ap, subst, arith}
use Rattle.std.specs.Prelude.{slice_get}
use Rattle.setl_live_reads.specs.declared.node.Access.TheVariants.{Read}
use Rattle.setl_live_reads.specs.declared.node.Node.{Node}
use Rattle.setl_live_reads.specs.Paths.{IsRight}
use Rattle.setl_code.specs.declared.code.Step.{Step}
use Rattle.setl_live.specs.Nodes.{node, handed}
use Rattle.setl_live.proofs.Bodies.{reads_fit}
use Rattle.setl_live.proofs.TakesTold.{takes_tell_by}
use Rattle.setl_live.proofs.taking.takes_are_last.Goals as goal

pub last_reads-requires-clause-slots : goal.last_reads-requires-clause-slots
last_reads-requires-clause-slots c at x m is reads =
    let same : c.deref.result.now ≡ map node c.args.body.now.steps = c.deref.ensures.value ∙ c.in_ok-nodes.ensures ∙ ap (map node) c.as_slice.ensures in
    let small : x < length c.args.body.now.parameters + length c.args.body.now.names = reads_fit c.requires.fits.0 (length c.args.body.now.parameters + length c.args.body.now.names) c.args.body.now.steps c.requires.fits.1 at x m (ap (λ (ns : List Node). slice_get ns at) (sym same) ∙ is) reads in
    omega (arith, small, c.len-4.ensures, c.len-5.ensures)

pub returns : goal.returns
returns c declared vars =
    let nodes : c.deref.result.now ≡ map node c.args.body.now.steps = c.deref.ensures.value ∙ c.in_ok-nodes.ensures ∙ ap (map node) c.as_slice.ensures in
    let back : c.deref-2.result.now ≡ handed c.args.body.now.parameters = c.deref-2.ensures.value ∙ c.in_ok-back.ensures ∙ ap handed c.as_slice-2.ensures in
    let right =
    subst (λ (ns : List Node). (at x : ℕ) (m : Node) → slice_get ns at ≡ Some m → m.access ≡ Read x → IsRight ns (handed c.args.body.now.parameters) c.in_ok-marks.marks.items at x) nodes
    (subst (λ (bs : List Bool). (at x : ℕ) (m : Node) → slice_get c.deref.result.now at ≡ Some m → m.access ≡ Read x → IsRight c.deref.result.now bs c.in_ok-marks.marks.items at x) back c.in_ok-marks.ensures.right) in
    takes_tell_by declared vars c.args.n c.args.body.now c.args.table.now c.in_ok-marks.marks.items c.are_right.result right
    c.deref-3.result.now c.refused_of.result.now c.as_slice-3.result.now c.deref-3.ensures.value c.refused_of.ensures c.as_slice-3.ensures
    c.are_right.ensures.right c.are_right.ensures.wrong
