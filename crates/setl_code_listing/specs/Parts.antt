-- The parts of code as plain data.
use Rattle.std.specs.Prelude.{List, map}
use Rattle.setl_model_runs.specs.Variable.{Global}
use Rattle.setl_code.specs.declared.code.Body.{Body}
use Rattle.setl_code.specs.declared.code.Code.{Code}
use Rattle.setl_code.specs.Code as plain
use Rattle.setl_code.specs.Plain.{Variables, own_variables, plain_bodies, plain_body}

-- all bodies
abbrev pub bodies_of : Code → List plain.Body
bodies_of c = plain_bodies (map Global c.vars) 0 c.bodies

-- A body, and its variables by slots, as if it were the first one: no text of a variable tells the number of its body.
abbrev pub body_of : Code → Body → plain.Body
body_of c b = plain_body (map Global c.vars) 0 b

abbrev pub variables_of : Code → Body → Variables
variables_of c b = record { global = map Global c.vars; own = own_variables 0 b.parameters b.names }
