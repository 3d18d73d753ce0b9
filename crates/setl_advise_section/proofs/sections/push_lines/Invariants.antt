use Rattle.std.proofs.Common.{◌≡◌, ◌++◌, drop}
use Rattle.setl_advise_section.specs.Section.{lines_text}
use Rattle.setl_advise_section.specs.code.Numbers.{bases_of, plain_variables}
use Rattle.setl_advise_section.proofs.sections.push_lines.Given as goal

abbrev pub invariant-loop-v : goal.invariant-loop-v
invariant-loop-v l = l.into.items ++ lines_text (bases_of l.numbers) (plain_variables (drop l.v-index l.variables)) ≡ l.initial.into.items ++ lines_text (bases_of l.numbers) (plain_variables l.variables)
