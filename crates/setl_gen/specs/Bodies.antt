-- A body: how it begins, and what it is at its end.
use Rattle.std.specs.Prelude.{ℕ, List, [], map}
use Rattle.setl_tree.specs.declared.tree.Param.{Param}
use Rattle.setl_program.specs.Program.{Block}
use Rattle.setl_program.specs.ProgramOf.{parameter_of}
use Rattle.setl_code.specs.Code.{Body}
use Rattle.setl_code.specs.Names.{own_names}
use Rattle.setl_gen_emitter.specs.Table.{Table}
use Rattle.setl_gen_emitter.specs.Emitted.{Emitted}

-- the variables of a body with these names in `var`, this number, these parameters and these statements
abbrev pub table_of : (vars : List (List ℕ)) → (body : ℕ) → List Param → Block → Table
table_of vars body ps b = record { body = body; vars = vars; parameters = ps; names = own_names (map parameter_of ps) b }

-- nothing emitted yet
abbrev pub blank : Table → Emitted
blank t = record { table = t; again = 0; steps = []; exits = [] }

-- the body of this name whose steps were emitted
abbrev pub finished : (name : List ℕ) → Table → Emitted → Body
finished name t s = record { name = name; parameters = map parameter_of t.parameters; names = t.names; steps = s.steps }
