use Rattle.std.proofs.Common.{◌≡◌, drop, fold}
use Rattle.setl_names.specs.Breaks.{earlier, tagged}
use Rattle.setl_modes_declarations.specs.Rules.{lines_of_names}
use Rattle.setl_modes_declarations.specs.code.Taken.{is_none_of}
use Rattle.setl_modes_declarations.proofs.names.undeclarable.Given as goal

abbrev pub invariant-loop-variable : goal.invariant-loop-variable
invariant-loop-variable l = fold earlier l.first (tagged 24 (lines_of_names (is_none_of l.procs l.main) (drop l.variable-index l.variables))) ≡ fold earlier l.initial.first (tagged 24 (lines_of_names (is_none_of l.procs l.main) l.variables))
