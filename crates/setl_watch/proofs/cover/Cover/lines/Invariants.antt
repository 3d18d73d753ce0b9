use Rattle.std.proofs.Common.{◌≡◌, ◌++◌, drop}
use Rattle.setl_watch.specs.Covers.{cover_report}
use Rattle.setl_watch.proofs.cover.Cover.lines.Given as goal

abbrev pub invariant-loop-line : goal.invariant-loop-line
invariant-loop-line l = l.into.items ++ cover_report (drop l.line-index l.line-items) ≡ cover_report l.line-items
