use Rattle.std.proofs.Common.{◌≡◌, ◌≤◌, ◌-◌, length, map}
use Rattle.setl_top.specs.Watching.{named}
use Rattle.setl_top.proofs.Keeping.{named_from}
use Rattle.setl_top.proofs.watching.keep_named.Given as goal

abbrev pub invariant-loop-at : goal.invariant-loop-at
invariant-loop-at g l = record {
  kept : named_from l.at l.name (map (λ w. (goal.Watcher-dyn g (w.vtable, w.value)).watch w.value) l.watchers.items) ≡ named l.name (map (λ w. (goal.Watcher-dyn g (w.vtable, w.value)).watch w.value) l.fn.watchers.items);
  within : l.at ≤ length l.watchers.items;
}

abbrev pub decreases-loop-at : goal.decreases-loop-at
decreases-loop-at g l = length l.watchers.items - l.at
