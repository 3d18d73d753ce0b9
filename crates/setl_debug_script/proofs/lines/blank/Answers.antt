use Rattle.std.proofs.Common.{arith}
use Rattle.setl_debug_script.proofs.LineEnds.{blank_there, no_blank}
use Rattle.setl_debug_script.proofs.lines.blank.Goals as goal

pub returns-then-line-at-eq32-clause-some : goal.returns-then-line-at-eq32-clause-some
returns-then-line-at-eq32-clause-some c = blank_there c.args.line.now c.loop-at.at c.loop-at.invariant (omega arith) c.if-line-at-eq32.true

pub returns-clause-none : goal.returns-clause-none
returns-clause-none c = no_blank c.args.line.now (λ k lt e. c.loop-at.invariant k (omega arith) e)
