use Rattle.setl_watch.specs.code.NoticeOf.{notice_of}
use Rattle.setl_watch.proofs.Telling.{more_told, enough_told}
use Rattle.setl_watch.proofs.watcher.tell_one.Goals as goal

pub returns-in-More-clause-told : goal.returns-in-More-clause-told
returns-in-More-clause-told g c =
    let e = c.tell_this.ensures.more c.in-More.is in
    more_told (λ w. (goal.Watcher-dyn g (w.vtable, w.value)).watch w.value) (notice_of c.args.e.now) c.args.watchers.now.items c.args.at c.index_mut.result.now c.tell_this.new.watcher c.args.reports.now.items c.requires c.index_mut.ensures.value e.0 e.1

pub returns-in_ok-report_this-in-Enough-clause-told : goal.returns-in_ok-report_this-in-Enough-clause-told
returns-in_ok-report_this-in-Enough-clause-told g c =
    let e = c.tell_this.ensures.enough c.in-Enough.is in
    rw (c.in_ok-report_this-in-Enough.ensures, c.remove-watcher.ensures.items)
    (enough_told (λ w. (goal.Watcher-dyn g (w.vtable, w.value)).watch w.value) (notice_of c.args.e.now) c.args.watchers.now.items c.args.at c.index_mut.result.now c.tell_this.new.watcher c.remove-watcher.result c.args.reports.now.items c.requires c.index_mut.ensures.value c.remove-watcher.ensures.value e.0 e.1)
