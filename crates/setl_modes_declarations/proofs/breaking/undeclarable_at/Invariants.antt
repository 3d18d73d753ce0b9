use Rattle.std.proofs.Common.{◌≡◌, drop, map}
use Rattle.setl_names.specs.Heads.{declared_entry}
use Rattle.setl_names_walk.specs.Breaking.{first_at}
use Rattle.setl_modes_declarations.specs.code.Taken.{is_none_of}
use Rattle.setl_modes_declarations.proofs.breaking.undeclarable_at.Given as goal

abbrev pub invariant-loop-variable : goal.invariant-loop-variable
invariant-loop-variable l = first_at (is_none_of l.procs l.main) l.line (map declared_entry (drop l.variable-index l.variables)) ≡ first_at (is_none_of l.procs l.main) l.line (map declared_entry l.variables)
