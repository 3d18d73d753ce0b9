use Rattle.std.proofs.Common.{◌≡◌, ◌≤◌, drop, length}
use Rattle.setl_advise_flows.specs.Operators.{all_joined, flows}
use Rattle.setl_advise_lattice.specs.code.Levels.{flow_of, shapes_of}
use Rattle.setl_advise_lattice.proofs.operators.all_joined.Given as goal

abbrev pub invariant-operands : goal.invariant-operands
invariant-operands l = (l.at ≤ length l.ws) × (flow_of l.all ≡ all_joined (flows (shapes_of (drop l.at l.ws))))

abbrev pub decreases-operands : goal.decreases-operands
decreases-operands l = l.at
