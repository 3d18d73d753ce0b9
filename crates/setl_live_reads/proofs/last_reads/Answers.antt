use Rattle.std.proofs.Common.{◌≡◌, ◌∙◌, ◌++◌, ◌<◌, ℕ, List, Bool, length, take, drop, Some, sym, ap, subst, arith}
use Rattle.std.proofs.Math.Seq.{take-append_seam}
use Rattle.std.specs.Prelude.{slice_get}
use Rattle.setl_live_reads.specs.declared.node.Access.TheVariants.{Read}
use Rattle.setl_live_reads.specs.declared.node.Node.{Node}
use Rattle.setl_live_reads.specs.Paths.{IsRight}
use Rattle.setl_live_reads.specs.Ranges.{Sourced, Spanned}
use Rattle.setl_live_reads.proofs.last_reads.Goals as goal

-- a slice that was written as a whole
written_back : (n : ℕ) (xs ys : List Bool) → n ≡ length xs → take n (xs ++ ys) ≡ xs
written_back n xs ys same = ap (λ (k : ℕ). take k (xs ++ ys)) same ∙ take-append_seam xs ys

pub returns-clause-right : goal.returns-clause-right
returns-clause-right c =
    subst (λ (marks : List Bool). (at x : ℕ) (node : Node) → slice_get c.args.nodes.now at ≡ Some node → node.access ≡ Read x → IsRight c.args.nodes.now c.args.back.now marks at x)
    (sym (written_back c.in_ok-marks.marks.len c.mark_rows.new.marks (drop (length c.mark_rows.new.marks) c.in_ok-marks.marks.items) (omega (arith, c.mark_rows.ensures.marks, c.deref_mut-4.ensures.len))))
    (λ at x node there reads. c.mark_rows.ensures.right at x node there reads (let small : x < c.args.slots = c.requires.slots at x node there reads in omega arith))

pub mark_rows-requires-clause-chains : goal.mark_rows-requires-clause-chains
mark_rows-requires-clause-chains c row small = c.in_ok-chains.ensures.chains row (omega (arith, small, c.in_ok-chains.ensures.sizes))

pub mark_rows-requires-clause-sourced : goal.mark_rows-requires-clause-sourced
mark_rows-requires-clause-sourced c = subst (λ (ls : List Node). Sourced ls c.in_ok-sources.sources.first.items c.in_ok-sources.sources.last.items (length ls)) c.deref.ensures.value c.in_ok-sources.ensures.sourced

pub mark_rows-requires-clause-spanned : goal.mark_rows-requires-clause-spanned
mark_rows-requires-clause-spanned c at slot node small is names within =
    let spanned = subst (λ (bs : List ℕ). Spanned c.args.nodes.now bs (length c.in_ok-spans.spans.first.items) c.in_ok-spans.spans.first.items c.in_ok-spans.spans.last.items (length c.args.nodes.now)) c.deref-2.ensures.value (λ at2 slot2 node2 small2 is2 names2 within2. c.in_ok-spans.ensures.spanned at2 slot2 node2 small2 is2 names2 (omega (arith, within2, c.in_ok-spans.ensures.sizes))) in
    spanned at slot node small is names (omega (arith, within, c.in_ok-spans.ensures.sizes, c.in_ok-chains.ensures.sizes))
