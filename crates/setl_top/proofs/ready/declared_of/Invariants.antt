use Rattle.std.proofs.Common.{◌≡◌, map}
use Rattle.setl_image_names.specs.Once.{variable_of}
use Rattle.setl_modes.specs.Modes.{mode_of}
use Rattle.setl_program.specs.code.Plain.{plain_declared}
use Rattle.setl_top.proofs.ready.declared_of.Given as goal

abbrev pub invariant-loop-named : goal.invariant-loop-named
invariant-loop-named l = map plain_declared l.all ≡ map (λ d. (variable_of l.code.vars d.name, mode_of d.mode)) l.yielded
