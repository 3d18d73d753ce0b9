use Rattle.std.proofs.Common.{◌≡◌, drop, map}
use Rattle.setl_watch.specs.code.NoticeOf.{notice_of}
use Rattle.setl_debug_machine.specs.Screens.{after_all}
use Rattle.setl_debug_machine.proofs.telling.tell_all.Given as goal

abbrev pub invariant-loop-e : goal.invariant-loop-e
invariant-loop-e g l = after_all (g.W.Watcher.watch l.watcher) (map notice_of (drop l.e-index l.events)) ≡ after_all (g.W.Watcher.watch l.fn.watcher) (map notice_of l.events)
