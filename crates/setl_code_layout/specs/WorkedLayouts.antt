-- Worked rows of dumps of code: a program that reads a value into a declared variable and stops inside a procedure.
use Rattle.std.specs.Prelude.{◌≡◌, true, [], ◌∷◌, codes, None, refl}
use Rattle.setl_modes.specs.Modes.{Strings}
use Rattle.setl_model_runs.specs.Events.{Done}
use Rattle.setl_program.specs.Program.{Program}
use Rattle.setl_model.specs.Means.{Means}
use Rattle.setl_model.specs.Dump.{layout}
use Rattle.setl_code.specs.CodeCore.{There, Gone, main_held, CodeCore}
use Rattle.setl_code.specs.CodeOf.{code_of}
use Rattle.setl_code.specs.CodeMeans.{CodeMeans}
use Rattle.setl_code_simulation.specs.WorkedStates.{a, input, letter, program, y}
use Rattle.setl_code_layout.specs.Layout.{main_value, code_layout}

-- program q; repr y: str; end repr; read(y); p(y); proc p(a); print(a); stop; end proc; end program;
abbrev pub declares : Program
declares = record program { modes = (y, Strings) ∷ [] }

abbrev pub meant : Means declares input 1 true (codes "x\n") Done
meant = record { steps = 30; last = _; ends = refl; written = refl }

abbrev pub done : CodeMeans (code_of declares) declares.modes input 1 true (codes "x\n") Done
done = record { steps = 20; last = _; ends = refl; written = refl }

-- `y` of the main program has the value that was read; the parameter of the procedure at work has none there
of_the_caller : main_held y done.last.core ≡ There letter
of_the_caller = refl

not_of_the_procedure : main_value a done.last.core ≡ None
not_of_the_procedure = refl

-- the dump of both
dump_meant : layout [] declares.modes meant.last ≡ codes "y plain 'x'\n"
dump_meant = refl

dump_of_code : code_layout [] declares.modes (λ b. []) done.last.core ≡ codes "y plain 'x'\n"
dump_of_code = refl

-- a variable of the main program that was taken is as `om`
abbrev pub taken : CodeCore
taken = record done.last.core { callers = record { body = 0; at = 0; own = (y, Gone) ∷ []; operands = [] } ∷ [] }

dump_of_taken : code_layout [] declares.modes (λ b. []) taken ≡ codes "y om\n"
dump_of_taken = refl
