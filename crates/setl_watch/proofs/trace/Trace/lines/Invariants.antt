use Rattle.std.proofs.Common.{◌≡◌, ◌++◌, drop, map}
use Rattle.setl_watch.specs.code.NoticeOf.{notice_of}
use Rattle.setl_watch.specs.Traces.{trace_report}
use Rattle.setl_watch.proofs.trace.Trace.lines.Given as goal

abbrev pub invariant-loop-e : goal.invariant-loop-e
invariant-loop-e l = l.into.items ++ trace_report (map notice_of (drop l.e-index l.e-items)) ≡ trace_report (map notice_of l.e-items)
