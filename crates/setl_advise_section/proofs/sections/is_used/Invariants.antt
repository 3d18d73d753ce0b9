use Rattle.std.proofs.Common.{◌≡◌, drop}
use Rattle.setl_advise_section.specs.Section.{is_used}
use Rattle.setl_advise_lattice.specs.code.Levels.{kind_of}
use Rattle.setl_advise_section.specs.code.Numbers.{plain_variables}
use Rattle.setl_advise_section.proofs.sections.is_used.Given as goal

abbrev pub invariant-loop-v : goal.invariant-loop-v
invariant-loop-v l = is_used (kind_of l.k) (plain_variables (drop l.v-index l.variables)) ≡ is_used (kind_of l.k) (plain_variables l.variables)
