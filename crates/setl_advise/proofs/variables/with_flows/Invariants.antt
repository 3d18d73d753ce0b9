use Rattle.std.proofs.Common.{◌≡◌, map, take}
use Rattle.setl_program.specs.code.Plain.{plain_variable}
use Rattle.setl_advise_section.specs.code.Numbers.{plain_variables}
use Rattle.setl_advise_terms.specs.code.Plain.{flows_of}
use Rattle.setl_advise.specs.Advice.{with_flows}
use Rattle.setl_advise.proofs.variables.with_flows.Given as goal

abbrev pub invariant-loop-x : goal.invariant-loop-x
invariant-loop-x l = plain_variables l.all.items ≡ with_flows (flows_of l.table) (map plain_variable (take l.x-index l.variables))
