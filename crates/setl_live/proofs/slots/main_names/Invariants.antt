use Rattle.std.proofs.Common.{◌≡◌, [], drop, map}
use Rattle.setl_code_marked.specs.Marked.{declared_in}
use Rattle.setl_program.specs.code.Plain.{plain_declared}
use Rattle.setl_live.specs.Slots.{with_all_main}
use Rattle.setl_live.proofs.slots.main_names.Given as goal

abbrev pub invariant-loop-it : goal.invariant-loop-it
invariant-loop-it l = with_all_main l.names (declared_in (map plain_declared (drop l.it-index l.declared))) ≡ with_all_main [] (declared_in (map plain_declared l.declared))
