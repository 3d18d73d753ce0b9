use Rattle.std.proofs.Common.{◌≡◌, drop, map}
use Rattle.setl_names.specs.Heads.{declared_entry}
use Rattle.setl_names_walk.specs.Breaking.{first_at}
use Rattle.setl_modes_declarations.specs.code.Taken.{is_among}
use Rattle.setl_modes_declarations.proofs.breaking.taken_at.Given as goal

abbrev pub invariant-loop-base : goal.invariant-loop-base
invariant-loop-base l = first_at (is_among l.procs l.others) l.line (map declared_entry (drop l.base-index l.bases)) ≡ first_at (is_among l.procs l.others) l.line (map declared_entry l.bases)
