use Rattle.std.proofs.Common.{◌≡◌, drop, fold}
use Rattle.setl_names.specs.Breaks.{earlier, tagged}
use Rattle.setl_modes_declarations.specs.Rules.{lines_of_names}
use Rattle.setl_modes_declarations.specs.code.Taken.{is_among}
use Rattle.setl_modes_declarations.proofs.names.taken.Given as goal

abbrev pub invariant-loop-base : goal.invariant-loop-base
invariant-loop-base l = fold earlier l.first (tagged 20 (lines_of_names (is_among l.procs l.others) (drop l.base-index l.bases))) ≡ fold earlier l.initial.first (tagged 20 (lines_of_names (is_among l.procs l.others) l.bases))
