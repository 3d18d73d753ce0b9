use Rattle.std.proofs.Common.{arith}
use Rattle.std.proofs.Math.ListN.{drop_of_length-le}
use Rattle.setl_explain_next.specs.Candidates.{candidates}
use Rattle.setl_explain_next.specs.Next.{GoesOn}
use Rattle.setl_explain_next.proofs.FirstLaws.{at_most, at_end, at_index}
use Rattle.setl_explain_next.proofs.kinds.next_kinds.Goals as goal

pub returns-then-len-ge-MOST : goal.returns-then-len-ge-MOST
returns-then-len-ge-MOST c =
    at_most (GoesOn c.args.source.now c.args.at) 10 candidates c.loop-i.found.items c.loop-i.i (omega (arith, c.if-len-ge-MOST.true, c.len.ensures, c.loop-i.invariant.0)) c.loop-i.invariant

pub loop-i-preserved : goal.loop-i-preserved
loop-i-preserved c =
    at_index (GoesOn c.args.source.now c.args.at) 10 candidates c.candidates-all.result.now c.loop-i.found.items _ c.loop-i.i _ c.candidates-all.ensures c.loop-i-test.true (omega (arith, c.if-len-ge-MOST.false, c.len.ensures)) c.in_ok-add_if_next.ensures c.loop-i.invariant

pub returns : goal.returns
returns c =
    at_end (GoesOn c.args.source.now c.args.at) 10 candidates c.loop-i.found.items c.loop-i.i (drop_of_length-le candidates (rw c.candidates-all.ensures at c.loop-i-test.false)) c.loop-i.invariant
