use Rattle.std.proofs.Common.{◌≤◌, ℕ, drop, map}
use Rattle.setl_machine_layout.specs.Claims.{AllNameWithin}
use Rattle.setl_program.specs.code.Plain.{plain_declared}
use Rattle.setl_top.proofs.run.bases_named.Given as goal

abbrev pub invariant-loop-variable : goal.invariant-loop-variable
invariant-loop-variable l = (top : ℕ) → l.count ≤ top → AllNameWithin top (map plain_declared (drop l.variable-index l.declared)) → AllNameWithin top (map plain_declared l.declared)
