use Rattle.std.proofs.Common.{◌≡◌, drop, fold}
use Rattle.setl_names.specs.Breaks.{earlier, tagged}
use Rattle.setl_names.specs.Heads as heads
use Rattle.setl_names_walk.proofs.head.program_names.Given as goal

abbrev pub invariant-loop-proc : goal.invariant-loop-proc
invariant-loop-proc l = fold earlier l.first (tagged 4 (heads.rule_4 l.name (drop l.proc-index l.procs))) ≡ fold earlier l.initial.first (tagged 4 (heads.rule_4 l.name l.procs))
