use Rattle.std.specs.Prelude.{◌≡◌}
use Rattle.std.specs.FinMap as map
use Rattle.setl_rep_bases.specs.BaseId.{id_cmp}
use Rattle.setl_rep_bases.specs.Bases.{main_instances}
use Rattle.setl_rep_bases.proofs.bases.Bases.new.Given as goal

abbrev pub invariant-loop-base : goal.invariant-loop-base
invariant-loop-base l = map.from_entries {R = id_cmp} l.instances.entries ≡ main_instances l.base
