use Rattle.std.proofs.Common.{◌≡◌, ◌+◌, ◌≤◌, length, take, drop}
use Rattle.setl_debug_script.specs.Lines.{lines}
use Rattle.setl_debug_script.specs.Scripts.{AreCommands}
use Rattle.setl_debug_script.proofs.reading.read_script.Given as goal

abbrev pub invariant-loop-rest : goal.invariant-loop-rest
invariant-loop-rest l = record {
  spelled : AreCommands (take l.n (lines l.bytes)) l.commands;
  left : drop l.n (lines l.bytes) ≡ lines l.rest;
  few : l.n + length l.rest ≤ length l.bytes;
}

abbrev pub decreases-loop-rest : goal.decreases-loop-rest
decreases-loop-rest l = length l.rest
