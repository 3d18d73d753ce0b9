use Rattle.std.proofs.Common.{◌≡◌, ◌≤◌, drop, length}
use Rattle.std.specs.Option.{option_map}
use Rattle.setl_advise_flows.specs.Operators.{all_pairs}
use Rattle.setl_advise_lattice.specs.code.Levels.{pair_of, shapes_of}
use Rattle.setl_advise_lattice.proofs.operators.all_pairs.Given as goal

abbrev pub invariant-operands : goal.invariant-operands
invariant-operands l = (l.at ≤ length l.ws) × (option_map pair_of l.all ≡ all_pairs (shapes_of (drop l.at l.ws)))

abbrev pub decreases-operands : goal.decreases-operands
decreases-operands l = l.at
