use Rattle.std.proofs.Common.{◌≡◌, ◌≤◌, ◌-◌, length, map}
use Rattle.setl_watch.specs.code.NoticeOf.{notice_of}
use Rattle.setl_watch.specs.code.Telling.{told_from}
use Rattle.setl_watch.proofs.watcher.tell.Given as goal

abbrev pub invariant-loop-at : goal.invariant-loop-at
invariant-loop-at g l = record {
  told : told_from l.at (notice_of l.e) (map (λ w. (goal.Watcher-dyn g (w.vtable, w.value)).watch w.value) l.watchers.items) l.reports.items ≡ told_from 0 (notice_of l.e) (map (λ w. (goal.Watcher-dyn g (w.vtable, w.value)).watch w.value) l.fn.watchers.items) l.fn.reports.items;
  within : l.at ≤ length l.watchers.items;
}

abbrev pub decreases-loop-at : goal.decreases-loop-at
decreases-loop-at g l = length l.watchers.items - l.at
