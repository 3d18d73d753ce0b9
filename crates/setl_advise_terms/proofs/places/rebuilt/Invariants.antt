use Rattle.std.proofs.Common.{◌≡◌, ◌≤◌, drop, map, length}
use Rattle.setl_advise_lattice.specs.code.Levels.{flow_of}
use Rattle.setl_advise_terms.specs.Selected.{rebuilt}
use Rattle.setl_advise_terms.specs.code.Plain.{plain_selected}
use Rattle.setl_advise_terms.proofs.places.rebuilt.Given as goal

abbrev pub invariant-levels : goal.invariant-levels
invariant-levels l = (l.at ≤ length l.ls) × (flow_of l.all ≡ rebuilt (map plain_selected (drop l.at l.ls)) (flow_of l.fn.y))

abbrev pub decreases-levels : goal.decreases-levels
decreases-levels l = l.at
