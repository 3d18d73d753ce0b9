use Rattle.std.proofs.Common.{◌≡◌, drop, map}
use Rattle.setl_watch.specs.code.NoticeOf.{notice_of}
use Rattle.setl_watch.specs.Watches.{watched, told_each}
use Rattle.setl_watch.proofs.watcher.tell_each.Given as goal

abbrev pub invariant-loop-e : goal.invariant-loop-e
invariant-loop-e g l = told_each (map notice_of (drop l.e-index l.events)) (watched (map (λ w. (goal.Watcher-dyn g (w.vtable, w.value)).watch w.value) l.watchers.items) l.reports.items) ≡ told_each (map notice_of l.events) (watched (map (λ w. (goal.Watcher-dyn g (w.vtable, w.value)).watch w.value) l.fn.watchers.items) l.fn.reports.items)
