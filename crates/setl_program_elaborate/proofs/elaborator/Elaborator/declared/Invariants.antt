use Rattle.std.proofs.Common.{◌≡◌, map}
use Rattle.setl_modes.specs.Modes.{mode_of}
use Rattle.setl_program.specs.code.Plain.{plain_variable}
use Rattle.setl_program.specs.ProgramOf.{declaration_of}
use Rattle.setl_program_elaborate.proofs.elaborator.Elaborator.declared.Given as goal

abbrev pub invariant-loop-named : goal.invariant-loop-named
invariant-loop-named l = map (λ d. (plain_variable d.variable, mode_of d.mode)) l.all ≡ map (declaration_of l.self.scope) (map (λ d. (d.name, mode_of d.mode)) l.yielded)
