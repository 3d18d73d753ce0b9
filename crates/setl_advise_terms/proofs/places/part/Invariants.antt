use Rattle.std.proofs.Common.{◌≡◌, drop}
use Rattle.setl_program.specs.code.Plain.{selectors_of}
use Rattle.setl_advise_flows.specs.Expressions.{Flows, ats_of, part_flow}
use Rattle.setl_advise_lattice.specs.code.Levels.{flow_of}
use Rattle.setl_advise_terms.proofs.places.part.Given as goal

abbrev pub invariant-loop-s : goal.invariant-loop-s
invariant-loop-s l = (t : Flows) → part_flow (ats_of t (selectors_of (drop l.s-index l.ss))) (flow_of l.all) ≡ part_flow (ats_of t (selectors_of l.ss)) (flow_of l.fn.f)
