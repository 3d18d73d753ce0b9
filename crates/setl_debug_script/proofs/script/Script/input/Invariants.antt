use Rattle.std.proofs.Common.{◌≡◌, ◌++◌, drop, flat_map}
use Rattle.setl_debug_script.specs.Scripts.{input_line, input_of}
use Rattle.setl_debug_script.proofs.script.Script.input.Given as goal

abbrev pub invariant-loop-command : goal.invariant-loop-command
invariant-loop-command l = l.bytes.items ++ flat_map input_line (drop l.command-index l.command-items) ≡ input_of l.self
