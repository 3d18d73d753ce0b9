use Rattle.std.proofs.Common.{◌≡◌, ◌++◌, drop, map}
use Rattle.setl_program.specs.code.Plain.{selectors_of}
use Rattle.setl_advise_flows.specs.Expressions.{ats_of}
use Rattle.setl_advise_lattice.specs.code.Levels.{flow_of}
use Rattle.setl_advise_terms.specs.Selected.{levels_of}
use Rattle.setl_advise_terms.specs.code.Plain.{flows_of, plain_selected}
use Rattle.setl_advise_terms.proofs.places.levels.Given as goal

abbrev pub invariant-loop-s : goal.invariant-loop-s
invariant-loop-s l =
    let s = flows_of l.table in
    map plain_selected l.all.items ++ levels_of (ats_of s (selectors_of (drop l.s-index l.ss))) (flow_of l.from) ≡ levels_of (ats_of s (selectors_of l.ss)) (flow_of l.fn.f)
