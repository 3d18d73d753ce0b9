use Rattle.std.proofs.Common.{◌≡◌, drop, map}
use Rattle.setl_names.specs.Procedures.{is_procedure}
use Rattle.setl_names_walk.specs.Breaking as spec
use Rattle.setl_names_walk.proofs.breaking.procedure_at.Given as goal

abbrev pub invariant-loop-item : goal.invariant-loop-item
invariant-loop-item g l = spec.first_at (is_procedure l.procs) l.line (map g.T.Declares.entry_of (drop l.item-index l.items)) ≡ spec.first_at (is_procedure l.procs) l.line (map g.T.Declares.entry_of l.items)
