use Rattle.std.proofs.Common.{◌∙◌, refl, arith}
use Rattle.setl_live_reads.proofs.Straight.{begun, reached_next, front_next, latest_first}
use Rattle.setl_live_reads.proofs.Marking.{in_row, marked_more, marked_first, others_more}
use Rattle.setl_live_reads.proofs.marks.mark_steps.Goals as goal

pub steps-init : goal.steps-init
steps-init c =
    let start = begun c.args.nodes.now c.args.row c.args.first c.args.end c.requires.block.1 c.args.access c.requires.block.0 c.requires.last c.requires.plain c.args.latest c.requires.latest in
    (start.0, start.1.0, refl, start.1.1 c.args.handed c.args.out c.handing-live.result c.handing-live.ensures.back c.handing-live.ensures.others, λ back known step x m above below there reads same. absurd (start.1.2 step m above below there (in_row m.access x c.args.row reads same)), λ step x m there reads out. refl)

pub steps-smaller : goal.steps-smaller
steps-smaller c =
    let next = reached_next c.args.nodes.now c.args.row c.args.first c.args.end c.requires.block.1 c.steps.bound c.steps.invariant.0 c.steps.invariant.1 c.args.earlier.now c.steps-test.true c.requires.chained in
    omega (arith, next.latest.within, c.steps-test.true)

pub steps-preserved : goal.steps-preserved
steps-preserved c = (
  _,
  reached_next c.args.nodes.now c.args.row c.args.first c.args.end c.requires.block.1 c.steps.bound c.steps.invariant.0 c.steps.invariant.1 c.args.earlier.now c.steps-test.true c.requires.chained,
  c.mark_step.ensures.sizes ∙ c.steps.invariant.2,
  λ back known. front_next c.args.nodes.now c.args.row c.args.first c.args.end c.requires.block.1 c.steps.bound c.steps.invariant.0 c.steps.invariant.1 back c.args.out c.steps.live c.before-live.result c.steps-test.true (c.before-live.ensures.reads back known.0) c.before-live.ensures.passes (c.before-live.ensures.only back known.1) (c.steps.invariant.3 back known),
  λ back known. marked_more c.args.nodes.now c.args.row c.args.first c.args.end c.requires.block.1 c.steps.bound c.steps.invariant.0 c.steps.invariant.1 c.args.next c.args.out c.steps-test.true c.steps.marks c.mark_step.new.marks c.steps.live c.set_behind.result c.mark_step.ensures.there c.mark_step.ensures.kept c.set_behind.ensures.last c.set_behind.ensures.inside back (c.steps.invariant.3 back known) (c.steps.invariant.4 back known),
  λ step x m there reads out. others_more c.args.nodes.now c.args.row c.args.first c.args.end c.requires.block.1 c.steps.bound c.steps.invariant.0 c.steps.invariant.1 c.args.next c.args.out c.steps-test.true c.args.marks.now c.steps.marks c.mark_step.new.marks c.mark_step.ensures.kept step x m there reads out (c.steps.invariant.5 step x m there reads out),
)

pub returns-clause-there : goal.returns-clause-there
returns-clause-there c back known = marked_first c.args.nodes.now c.args.row c.args.first c.args.end c.requires.block.1 c.steps.bound c.steps.invariant.0 c.steps.invariant.1 c.args.next c.args.out c.steps-test.false back c.steps.marks (c.steps.invariant.4 back known)

pub returns-clause-latest : goal.returns-clause-latest
returns-clause-latest c = latest_first c.args.nodes.now c.args.row c.args.first c.args.end c.requires.block.1 c.steps.bound c.steps.invariant.0 c.steps.invariant.1 c.steps-test.false
