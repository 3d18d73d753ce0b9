use Rattle.std.proofs.Common.{arith}
use Rattle.setl_live_reads.proofs.Straight.{begun, reached_next, front_next, front_first, latest_first}
use Rattle.setl_live_reads.proofs.fronts.fronts.Goals as goal

pub steps-init : goal.steps-init
steps-init c =
    let start = begun c.args.nodes.now c.args.row c.args.first c.args.end c.requires.block.1 c.args.access c.requires.block.0 c.requires.last c.requires.plain c.args.latest c.requires.latest in
    (start.0, start.1.0, start.1.1 c.args.handed 0 c.handing-read.result c.handing-read.ensures.back c.handing-read.ensures.others, start.1.1 c.args.handed 18446744073709551615 c.handing-passed.result c.handing-passed.ensures.back c.handing-passed.ensures.others)

pub steps-smaller : goal.steps-smaller
steps-smaller c =
    let next = reached_next c.args.nodes.now c.args.row c.args.first c.args.end c.requires.block.1 c.steps.bound c.steps.invariant.0 c.steps.invariant.1 c.args.earlier.now c.steps-test.true c.requires.chained in
    omega (arith, next.latest.within, c.steps-test.true)

pub steps-preserved : goal.steps-preserved
steps-preserved c = (
  _,
  reached_next c.args.nodes.now c.args.row c.args.first c.args.end c.requires.block.1 c.steps.bound c.steps.invariant.0 c.steps.invariant.1 c.args.earlier.now c.steps-test.true c.requires.chained,
  λ back known. front_next c.args.nodes.now c.args.row c.args.first c.args.end c.requires.block.1 c.steps.bound c.steps.invariant.0 c.steps.invariant.1 back 0 c.steps.read c.before-read.result c.steps-test.true (c.before-read.ensures.reads back known.0) c.before-read.ensures.passes (c.before-read.ensures.only back known.1) (c.steps.invariant.2 back known),
  λ back known. front_next c.args.nodes.now c.args.row c.args.first c.args.end c.requires.block.1 c.steps.bound c.steps.invariant.0 c.steps.invariant.1 back 18446744073709551615 c.steps.passed c.before-passed.result c.steps-test.true (c.before-passed.ensures.reads back known.0) c.before-passed.ensures.passes (c.before-passed.ensures.only back known.1) (c.steps.invariant.3 back known),
)

pub returns-clause-reads : goal.returns-clause-reads
returns-clause-reads c back known = front_first c.args.nodes.now c.args.row c.args.first c.args.end c.requires.block.1 c.steps.bound c.steps.invariant.0 c.steps.invariant.1 c.steps-test.false back 0 c.steps.read (c.steps.invariant.2 back known)

pub returns-clause-passes : goal.returns-clause-passes
returns-clause-passes c back known = front_first c.args.nodes.now c.args.row c.args.first c.args.end c.requires.block.1 c.steps.bound c.steps.invariant.0 c.steps.invariant.1 c.steps-test.false back 18446744073709551615 c.steps.passed (c.steps.invariant.3 back known)

pub returns-clause-latest : goal.returns-clause-latest
returns-clause-latest c = latest_first c.args.nodes.now c.args.row c.args.first c.args.end c.requires.block.1 c.steps.bound c.steps.invariant.0 c.steps.invariant.1 c.steps-test.false
