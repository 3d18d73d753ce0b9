-- The line that the code tests of a base's mode.
use Rattle.std.specs.Prelude.{ℕ, Option, Some, None, if◌then◌else◌}
use Rattle.std.specs.List.{list_any}
use Rattle.setl_tree.specs.declared.mode.ReprLine.{ReprLine}
use Rattle.setl_tree.specs.declared.mode.ReprLine.TheVariants as rl
use Rattle.setl_modes_written.specs.Written.{written, parts}
use Rattle.setl_modes_written.specs.Tested.{is_for_variables}

-- the line of a base's mode that is for variables alone
abbrev pub mode_for_variables : ReprLine → Option ℕ
mode_for_variables (rl.Base line ds (Some m)) = if list_any is_for_variables (parts (written m)) then Some m.line else None
mode_for_variables l = None
