use Rattle.std.proofs.Common.{◌≡◌, ◌*◌, ◌-◌, ◌++◌}
use Rattle.setl_top.specs.Trials.{text_of, edge_lines, trial_input}
use Rattle.setl_top.proofs.generated.trial_input.Given as goal

abbrev pub invariant-loop-i : goal.invariant-loop-i
invariant-loop-i l = l.text.items ++ text_of (edge_lines l.nodes (2 * l.nodes - l.i) l.x) ≡ trial_input l.seed l.nodes
