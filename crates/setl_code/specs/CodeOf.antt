-- The code of a program.
use Rattle.std.specs.Prelude.{[], ◌∷◌, map}
use Rattle.setl_model_runs.specs.Variable.{Global}
use Rattle.setl_program.specs.Program.{Procedure, Program}
use Rattle.setl_code.specs.Code.{Body, Code}
use Rattle.setl_code.specs.Piece.{no_loop, steps_of}
use Rattle.setl_code.specs.Generated.{main_code, procedure_code}
use Rattle.setl_code.specs.Names.{own_names}

abbrev pub main_body : Program → Body
main_body p =
    record { name = p.name; parameters = []; names = own_names [] p.main; steps = steps_of no_loop (main_code p.end_line p.main 0) }

abbrev pub procedure_body : Procedure → Body
procedure_body p =
    record { name = p.name; parameters = p.parameters; names = own_names p.parameters p.body; steps = steps_of no_loop (procedure_code p.end_line p.body 0) }

abbrev pub code_of : Program → Code
code_of p = record { vars = map Global p.vars; bodies = main_body p ∷ map procedure_body p.procedures }
