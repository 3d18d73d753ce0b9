use Rattle.std.proofs.Common.{◌≡◌, ◌++◌, drop, map}
use Rattle.setl_watch.specs.Watches.{all_reported}
use Rattle.setl_watch.proofs.watcher.report_all.Given as goal

abbrev pub invariant-loop-w : goal.invariant-loop-w
invariant-loop-w g l = l.reports.items ++ all_reported (map (λ w. (goal.Watcher-dyn g (w.vtable, w.value)).watch w.value) (drop l.w-index l.watchers)) ≡ l.fn.reports.items ++ all_reported (map (λ w. (goal.Watcher-dyn g (w.vtable, w.value)).watch w.value) l.watchers)
