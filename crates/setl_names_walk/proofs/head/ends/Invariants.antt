use Rattle.std.proofs.Common.{◌≡◌, drop, fold}
use Rattle.setl_names.specs.Breaks.{earlier, tagged}
use Rattle.setl_names.specs.Heads as heads
use Rattle.setl_names_walk.proofs.head.ends.Given as goal

abbrev pub invariant-loop-proc : goal.invariant-loop-proc
invariant-loop-proc l = fold earlier l.first (tagged 2 (heads.rule_2 (drop l.proc-index l.procs))) ≡ fold earlier l.initial.first (tagged 2 (heads.rule_2 l.procs))
